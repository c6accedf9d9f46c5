-- The goals that the search leaves.
use Prim.Native.Nat.{ℕ, ◌+◌, ◌*◌, ◌≤◌}
use mathlib.Core.Path.{◌≡◌, refl, sym, ap, subst, ◌∙◌}
use native.Mathlib.Omega.{arith}
use native.Mathlib.Nat.{le_of_eq}
use lib.ListN.{length}
use Rattle.basics.specs.Places.{table}
use Rattle.basics.proofs.Laws.{length_table}
use Rattle.fields.specs.Bits.{field_at, byte_len}
use Rattle.file.specs.Reader.{row_bit, cell_of, count_at, labels_read, counts_read}
use Rattle.file.specs.Inner.{RowThere}
use Rattle.file.proofs.Stores.{before_none, before_more, before_on, before_all, row_cells, row_lent, row_next, next_row, next_room, next_bit}
use Rattle.fields.proofs.Bits.{field_lt}
use Rattle.file.proofs.store.rows.Goals as goal

pub loop-v-init : goal.loop-v-init
unfolding row_bit
loop-v-init c = record { bit = refl; labelled = record { holds = λ i h. absurd (omega arith) }; counted = before_none }

pub in_four-count-requires : goal.in_four-count-requires
unfolding byte_len row_bit
in_four-count-requires c = let row = next_row c.requires c.loop-v.invariant.bit (omega arith) refl in
    (record { narrow = omega arith; near = omega (arith, row.near) }, omega (arith, row.there), omega (arith, c.requires.there 0 (omega arith)))

pub overflow_cast-place : goal.overflow_cast-place
overflow_cast-place c = omega (arith, c.in_four-count.ensures, field_lt c.args.bytes.now c.loop-v.p 9)

pub row-requires : goal.row-requires
row-requires c =
    subst (RowThere _ _ _) (sym (row_lent c.loop-v.labels c.loop-v.v c.args.w (omega (arith, next_room c.requires c.loop-v.invariant.bit (omega arith)))))
    (next_row c.requires c.loop-v.invariant.bit (omega arith) c.in_four-count.ensures)

pub overflow_mul-p-in-loop-v : goal.overflow_mul-p-in-loop-v
overflow_mul-p-in-loop-v c = omega (arith, c.in_four-count.ensures, field_lt c.args.bytes.now c.loop-v.p 9)

pub overflow_add-p-in-loop-v : goal.overflow_add-p-in-loop-v
overflow_add-p-in-loop-v c = omega (arith, c.in_four-count.ensures, field_lt c.args.bytes.now c.loop-v.p 9)

pub overflow_add-p-in-loop-v-2 : goal.overflow_add-p-in-loop-v-2
overflow_add-p-in-loop-v-2 c =
    omega (arith, c.in_four-count.ensures, field_lt c.args.bytes.now c.loop-v.p 9, (next_row c.requires c.loop-v.invariant.bit (omega arith) refl).near)

pub loop-v-preserved : goal.loop-v-preserved
unfolding count_at
loop-v-preserved c =
    let bit = c.loop-v.invariant.bit in
    let room : c.loop-v.v * c.args.w + c.args.w ≤ length c.loop-v.labels = omega (arith, next_room c.requires bit (omega arith)) in
    let lent = row_lent c.loop-v.labels c.loop-v.v c.args.w room in
    let count = c.in_four-count.ensures ∙ ap (λ (x : ℕ). field_at c.args.bytes.now x 9) bit in
    let row = c.row.ensures ∙ ap (λ (x : ℕ). table x (cell_of c.args.bytes.now c.loop-v.p c.in_four-count.result)) lent in
    record {
      bit = next_bit c.requires bit (omega arith) c.in_four-count.ensures;
      labelled =
          before_on c.row.new.row _ c.loop-v.invariant.labelled (omega arith) (row_next c.loop-v.v c.args.w) (ap length row ∙ length_table _ _)
          (row_cells _ _ _ c.loop-v.v bit count row);
      counted = before_more c.loop-v.invariant.counted (omega arith) count;
    }

pub returns : goal.returns
unfolding labels_read counts_read
returns c =
    let all : length c.args.counts.now ≡ c.loop-v.v = omega arith in
    record {
      labels = before_all c.loop-v.invariant.labelled (le_of_eq (ap (λ (x : ℕ). x * c.args.w) all)) (c.loop-v.auto.labels ∙ c.requires.room);
      counts = before_all c.loop-v.invariant.counted (omega arith) c.loop-v.auto.counts;
    }
