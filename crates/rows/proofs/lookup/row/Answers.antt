-- Where the check refuses, the empty part at the front is what the definition says; where it does not, the row asked is.
use Rattle.std.proofs.Common.{refl, ap, ◌∙◌, ◌+◌, ◌*◌, ℕ}
use Rattle.entry.specs.Entry.{entry_bytes}
use Rattle.rows.specs.Lookup.{row_of, row_start}
use Rattle.rows.proofs.PairLaws.{lent_now, lent_at}
use Rattle.rows.proofs.lookup.row.Goals as goal

pub returns : goal.returns
unfolding row_of row_start
returns c =
    let place : ℕ → ℕ × ℕ = λ start. (c.args.labels.ref_ptr.0, start * entry_bytes + c.args.labels.ref_ptr.1) in
    record {
      entries = ap (λ (x : _). x.now) c.unwrap_or.ensures ∙ lent_now _ _ c.row_asked.result _ c.row_asked.ensures.row;
      lies =
          ap (λ (x : _). x.ref_ptr) c.unwrap_or.ensures
          ∙ lent_at _ _ c.row_asked.result _ place (c.args.v * c.args.w) c.row_asked.ensures.row c.row_asked.ensures.lies refl;
    }
