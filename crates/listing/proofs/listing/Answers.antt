-- The text put at the front of the room, and the room as it was behind it, are the whole room.
use Prim.Native.Nat.{ℕ, ◌≤◌}
use native.Mathlib.Omega.{arith}
use mathlib.Core.Path.{◌≡◌, sym, ap, ◌∙◌}
use mathlib.Core.List.{List, ◌++◌}
use lib.ListN.{length, drop, take-append-drop}
use lib.Seq.{length-take-le}
use Rattle.listing.specs.Inner.{PutText}
use Rattle.listing.specs.Listing.{listed_in}
use Rattle.listing.proofs.listing.Goals as goal

-- the room by its front and what is behind it
put_front : {room last text : List ℕ} {end : ℕ} → PutText room 0 text last end → (end ≡ length text) ×
    (last ≡ text ++ drop (length text) room)
put_front {room} {last} {text} {end} p =
    let e : end ≡ length text = omega (arith, p.ends) in
    (e, sym (take-append-drop end last) ∙ (λ i. p.holds i ++ p.rest i) ∙ ap (λ (k : ℕ). text ++ drop k room) e)

pub returns : goal.returns
unfolding listed_in
returns c =
    let o = c.«open» in
    let inside : o.result ≤ length o.new.out = omega (arith, o.ensures.near, o.ensures.put.long) in
    let (size, room) = put_front o.ensures.put in
    record { inside = (inside, sym (length-take-le _ _ inside)); size = size; room = room }
