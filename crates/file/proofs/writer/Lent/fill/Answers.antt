-- The whole file: header, order and rows, one behind the other from a fresh pen on, and the last byte filled up. The number
-- of the stretch is then the number of the fields, and a stretch of bytes is known by its number.
use Prim.Native.Nat.{ℕ, ◌*◌, ◌^◌, ◌≤◌}
use mathlib.Core.Path.{◌≡◌, refl, sym, ap, ap₂, ◌∙◌}
use mathlib.Core.List.{List, [], ◌++◌, append-nil}
use native.Mathlib.Omega.{arith}
use lib.ListN.{length, take}
use lib.Seq.{take_all}
use Rattle.std.proofs.Common.{rules}
use Rattle.fields.specs.Bits.{Field, Bytes, val, bit_len, num, bytes_of, byte_len, pad_len, packed}
use Rattle.fields.specs.Layout.{header_fields, order_fields, rows_fields, file_fields, file_of}
use Rattle.fields.specs.Inner.{pen_bits, pen_num, Left, Put, Closed}
use Rattle.file.specs.Inner.{Fit}
use Rattle.fields.specs.declared.put.Sheet.{Sheet}
use Rattle.fields.proofs.Bits.{val_bytes}
use Rattle.fields.proofs.Packed.{packed_length, pad_len_lem}
use Rattle.file.proofs.Fit.{fit_legal, fit_lies}
use Rattle.fields.proofs.Pen.{fresh_num, left_start, left_ready, left_step}
use Rattle.file.proofs.writer.Lent.fill.Goals as goal

-- a stretch as long as the packed fields has room for them
begun : {n w k : ℕ} {O labels counts o : List ℕ} {p : Sheet} → Fit n w k O labels counts → length o ≡ length (file_of n w k O labels counts)
    → pen_bits p.pen ≡ 0 → p.out.now ≡ o
    → Left p (file_fields n w k O labels counts) p (header_fields n k ++ (order_fields O ++ rows_fields w labels counts 0 n))
unfolding file_of file_fields
begun {n} {w} {k} {O} {labels} {counts} {o} {p} f e fresh room =
    let fs : List Field = file_fields n w k O labels counts in
    left_start (record {
      space = omega (arith, packed_length fs, pad_len_lem (bit_len fs), ap length room);
      legal = fit_legal n w k O labels counts f;
    })

-- behind the header the order and the rows are left
headed : {n w k : ℕ} {O labels counts o : List ℕ} {p p1 : Sheet} → Fit n w k O labels counts → length o ≡ length (file_of n w k O labels counts)
    → pen_bits p.pen ≡ 0 → p.out.now ≡ o → Put p (header_fields n k) p1
    → Left p (file_fields n w k O labels counts) p1 (order_fields O ++ rows_fields w labels counts 0 n)
headed f e fresh room done = left_step (begun f e fresh room) _ _ refl done

-- all fields put, the last byte filled up: the stretch is the file
ended : {o x : List ℕ} {p p1 p2 : Sheet} (fs : List Field) → length o ≡ length (packed fs) → pen_bits p.pen ≡ 0 → p.out.now ≡ o
    → Put p fs p1 → Closed p1 p2 → Bytes x → x ≡ p2.out.now → x ≡ packed fs
unfolding packed pen_num val bit_len num
ended {o} {x} {p} {p1} {p2} fs e fresh room u d b back =
    let bits : pen_bits p1.pen ≡ bit_len fs = omega (arith, u.bits) in
    let long : length x ≡ byte_len (bit_len fs) = ap length back ∙ d.long ∙ u.long ∙ ap length room ∙ e ∙ packed_length fs in
    let full : length x ≤ byte_len (pen_bits p1.pen) = omega (arith, ap byte_len bits) in
    let number : pen_num p1.out.now p1.pen ≡ num 0 fs = u.number ∙ ap (λ (a : ℕ). num a fs) (fresh_num p fresh) in
    let whole : val x ≡ num 0 fs * 2 ^ pad_len (bit_len fs) =
    ap val (sym (take_all (byte_len (pen_bits p1.pen)) x full)) ∙ ap (λ (l : List ℕ). val (take (byte_len (pen_bits p1.pen)) l)) back ∙ d.whole
    ∙ ap₂ (λ (a k : ℕ). a * 2 ^ pad_len k) number bits in
    sym (val_bytes x b) ∙ ap₂ bytes_of long whole

pub put_header-requires : goal.put_header-requires
put_header-requires c = (
  left_ready (begun c.requires.0 c.requires.1 c.new-sheet.ensures.fresh c.new-sheet.ensures.room) _ _ refl,
  c.requires.0.rooms.sizes.some_frames,
)

pub put_order-requires : goal.put_order-requires
put_order-requires c = left_ready (headed c.requires.0 c.requires.1 c.new-sheet.ensures.fresh c.new-sheet.ensures.room c.put_header.ensures) _ _ refl

pub put_rows-requires : goal.put_rows-requires
put_rows-requires c =
    ((left_step (headed c.requires.0 c.requires.1 c.new-sheet.ensures.fresh c.new-sheet.ensures.room c.put_header.ensures) _ _ refl c.put_order.ensures).ready, fit_lies _ _ _ _ _ _ c.requires.0)

pub returns : goal.returns
unfolding file_of
returns c =
    let behind = left_step (headed c.requires.0 c.requires.1 c.new-sheet.ensures.fresh c.new-sheet.ensures.room c.put_header.ensures) _ _ refl c.put_order.ensures in
    let all = left_step behind _ [] (sym (append-nil _)) c.put_rows.ensures in
    let same = sym c.new-sheet.ensures.same_reference ∙ sym all.same ∙ sym c.close.ensures.same in
    ended _ c.requires.1 c.new-sheet.ensures.fresh c.new-sheet.ensures.room all c.close.ensures (λ i. (c.type_inv.out i).fits) (search rules)
