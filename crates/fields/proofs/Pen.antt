-- The laws by which every writing function is proved: what is written so far, followed by the fields left, is the whole.
use Prim.Native.Nat.{ℕ, ◌+◌, ◌-◌, ◌*◌, ◌^◌, ◌≤◌, ◌<◌}
use mathlib.Core.Path.{◌≡◌, refl, sym, ap, ap₂, subst, ◌∙◌}
use mathlib.Core.List.{List, [], ◌∷◌, ◌++◌}
use native.Mathlib.Omega.{arith}
use native.Mathlib.Nat.{add-zero}
use lib.ListN.{length, take}
use lib.Arith.{lt-one}
use Rattle.basics.proofs.Laws.{drop_later}
use Rattle.fields.specs.Bits.{Field, val, bit_len, num}
use Rattle.fields.specs.Layout.{fields_from}
use Rattle.fields.specs.Inner.{Legal, pen_bits, pen_num, Ready, Left, Put}
use Rattle.fields.specs.declared.put.Sheet.{Sheet}
use Rattle.fields.proofs.Bits.{num_append, bit_len_append}
use Rattle.fields.proofs.LayoutLaws.{fields_next, fields_end}

pub legal_front : (fs gs : List Field) → Legal (fs ++ gs) → Legal fs
unfolding Legal
legal_front [] gs h = tt
legal_front (f ∷ fs) gs h = (h.0, legal_front fs gs h.1)

pub legal_back : (fs gs : List Field) → Legal (fs ++ gs) → Legal gs
unfolding Legal
legal_back [] gs h = h
legal_back (f ∷ fs) gs h = legal_back fs gs h.1

-- with a pen that has written nothing no number is there yet
pub fresh_num : (p : Sheet) → pen_bits p.pen ≡ 0 → pen_num p.out.now p.pen ≡ 0
unfolding pen_num val
fresh_num p h =
    let at : p.pen.at ≡ 0 = omega arith in
    let nb : p.pen.nb ≡ 0 = omega arith in
    let acc : p.pen.acc ≡ 0 = lt-one (subst (λ (k : ℕ). p.pen.acc < 2 ^ k) nb p.below) in
    ap₂ (λ (i x : ℕ). val (take i p.out.now) * 2 ^ p.pen.nb + x) at acc ∙ omega arith

pub left_start : {p : Sheet} {all : List Field} → Ready p all → Left p all p all
left_start r = record { ready = r; same = refl; bits = refl; number = refl; long = refl; keep = refl }

module _ {p₀ : Sheet} {all : List Field} {p : Sheet} where
  -- the next fields have room
  pub left_ready : {rest : List Field} → Left p₀ all p rest → (fs gs : List Field) → rest ≡ fs ++ gs → Ready p fs
  left_ready {rest} s fs gs e =
      let len : bit_len rest ≡ bit_len fs + bit_len gs = ap bit_len e ∙ bit_len_append fs gs in
      record {
        space = omega (arith, s.ready.space);
        legal = legal_front fs gs (subst Legal e s.ready.legal);
      }

  -- they were put
  pub left_step : {rest : List Field} → Left p₀ all p rest → (fs gs : List Field) → rest ≡ fs ++ gs →
      {p1 : Sheet} → Put p fs p1 → Left p₀ all p1 gs
  unfolding bit_len num
  left_step {rest} s fs gs e {p1} u =
      let len : bit_len rest ≡ bit_len fs + bit_len gs = ap bit_len e ∙ bit_len_append fs gs in
      let bits1 : pen_bits p1.pen ≡ pen_bits p.pen + bit_len fs = sym (add-zero (pen_bits p1.pen)) ∙ u.bits in
      let space0 : pen_bits p.pen + bit_len rest ≤ 8 * length p.out.now = s.ready.space in
      let long1 : length p1.out.now ≡ length p.out.now = u.long in
      record {
        ready =
            record {
              space = omega arith;
              legal = legal_back fs gs (subst Legal e s.ready.legal);
            };
        same = u.same ∙ s.same;
        bits = omega (arith, s.bits);
        number =
            ap (λ (x : ℕ). num x gs) u.number ∙ sym (num_append (pen_num p.out.now p.pen) fs gs) ∙ ap (num (pen_num p.out.now p.pen)) (sym e) ∙ s.number;
        long = u.long ∙ s.long;
        keep = u.keep ∙ drop_later p.out.now p₀.out.now p.pen.at p1.pen.at (omega arith) s.keep;
      }

  -- the same for one field
  pub next_ready : {f : Field} {gs : List Field} → Left p₀ all p (f ∷ gs) → Ready p (f ∷ [])
  next_ready {f} {gs} s = left_ready s (f ∷ []) gs refl

  pub next_step : {f : Field} {gs : List Field} → Left p₀ all p (f ∷ gs) →
      {p1 : Sheet} → Put p (f ∷ []) p1 → Left p₀ all p1 gs
  next_step {f} {gs} s u = left_step s (f ∷ []) gs refl u

  -- nothing is left
  pub left_end : {rest : List Field} → Left p₀ all p rest → rest ≡ [] → Put p₀ all p
  left_end s e = subst (Left p₀ all p) e s

  -- the fields of one place after another, up to an end: those of the next place have room, they were put, none is left
  module _ (one : ℕ → List Field) {v end : ℕ} (s : Left p₀ all p (fields_from one v (end - v))) where
    pub place_ready : v < end → Ready p (one v)
    place_ready h = left_ready s _ _ (fields_next one v end h)

    pub place_step : v < end → {p1 : Sheet} → Put p (one v) p1 → Left p₀ all p1 (fields_from one (v + 1) (end - (v + 1)))
    place_step h u = left_step s _ _ (fields_next one v end h) u

    pub places_end : end ≤ v → Put p₀ all p
    places_end h = left_end s (fields_end one v end h)
