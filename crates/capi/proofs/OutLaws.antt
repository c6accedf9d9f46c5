-- Rooms beside what is told change nothing of it.
use Prim.Native.Nat.{ℕ}
use mathlib.Core.Path.{◌≡◌, ap}
use mathlib.Core.List.{List}
use Rattle.refusal.specs.Told.{Told}
use Rattle.capi.specs.Outs.{outs}

pub with_rooms : {t u : Told} (rooms : List (List ℕ)) → t ≡ u → outs t rooms ≡ outs u rooms
with_rooms rooms e = ap (λ (t : Told). outs t rooms) e
