-- What the paper hands back of a call: its number, its place, and whatever else the call gives, in the order of its
-- parameters. Every answer has one definition that gives this record for each of its cases.
use Rattle.std.specs.Prelude.{ℕ, List, [], replicate, Ok, Err}
use Rattle.refusal.specs.Numbers.{number_of}
use Rattle.refusal.specs.Tests.{Refusal, Verdict}

pub record Told : Type 0 where
  pub number : ℕ
  pub place : ℕ
  pub values : List ℕ

-- success is 0, with these values
abbrev pub gives : List ℕ → Told
gives values = record { number = 0; place = 0; values = values }

-- each refusal also gives a place; any other number that the call hands back, so many of them, is then 0
abbrev pub refuses : Refusal → ℕ → Told
refuses r others = record { number = number_of r.reason; place = r.place; values = replicate others 0 }

-- the paper's numbers of a verdict: a test hands back nothing else
unfoldable pub verdict_told : Verdict → Told
verdict_told (Ok _) = gives []
verdict_told (Err r) = refuses r 0
