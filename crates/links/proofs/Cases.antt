-- Readings that the tests must have, computed on small cases.
use Rattle.std.specs.Prelude.{Err}
use mathlib.Core.Path.{◌≡◌, refl}
use mathlib.Core.List.{[], ◌∷◌}
use Rattle.basics.specs.Places.{first, some, stands, count, table}
use Rattle.refusal.specs.Numbers.{SIZE, LENGTH, STARTS, LINKS, ORDER}
use Rattle.refusal.specs.Sizes.{frames_fit, places_fit}
use Rattle.refusal.specs.Tests.{test, ◌then◌, refusal, if_fine, fine}
use Rattle.links.specs.Links.{starts_right, degree, holds, faulty_link, faulty_list, sizes_test, starts_test, lists_test, check_links}
use Rattle.links.specs.Order.{faulty_rank, order_test, check_order, before, ahead, order_by, degree_tests, ordered, ordered_by, degree_of, scattered, order_scattered, scattered_of}

record Readings : Type 0 where
  -- link 0-0: LINKS at 0
  self_link : check_links 1 (0 ∷ 1 ∷ []) (0 ∷ []) ≡ Err (refusal LINKS 0)
  -- a list that is not sorted still holds what stands in it: 2's list 4, 3, 1 is the fault of 2, not of 1
  unsorted : check_links 5 (0 ∷ 1 ∷ 3 ∷ 6 ∷ 7 ∷ 8 ∷ []) (1 ∷ 0 ∷ 2 ∷ 4 ∷ 3 ∷ 1 ∷ 2 ∷ 2 ∷ []) ≡ Err (refusal LINKS 2)
  -- start positions of the wrong length are LENGTH, neighbour places that the last start does not count are STARTS
  short_starts : check_links 2 (0 ∷ 0 ∷ []) [] ≡ Err (refusal LENGTH 0)
  more_places : check_links 1 (0 ∷ 0 ∷ []) (0 ∷ []) ≡ Err (refusal STARTS 0)
  -- one scan from rank 0 for both faults of an order
  repeat_first : check_order 3 (1 ∷ 1 ∷ 9 ∷ []) ≡ Err (refusal ORDER 1)
  out_first : check_order 3 (9 ∷ 1 ∷ 1 ∷ []) ≡ Err (refusal ORDER 0)
  -- 4,096 frames are taken by the SIZE test, 4,097 are not
  most_frames_lem : check_order 4096 [] ≡ Err (refusal LENGTH 0)
  too_many_frames : check_order 4097 [] ≡ Err (refusal SIZE 0)
  -- a short order room and bad links together are LENGTH, and the room is as lent
  short_room : degree_of 1 (0 ∷ 1 ∷ []) (0 ∷ []) [] ≡ ordered (Err (refusal LENGTH 0)) []
  -- ring 0-1-2-3-0, all degrees 2: the scattered numbers 0, 2531, 966, 3497 decide
  ring_scattered :
      scattered_of 4 (0 ∷ 2 ∷ 4 ∷ 6 ∷ 8 ∷ []) (1 ∷ 3 ∷ 0 ∷ 2 ∷ 1 ∷ 3 ∷ 0 ∷ 2 ∷ []) (9 ∷ 9 ∷ 9 ∷ 9 ∷ [])
      ≡ ordered fine (0 ∷ 2 ∷ 1 ∷ 3 ∷ [])
  -- chain 0-1-2-3: 1 and 2, with two links each, go first
  chain_scattered : order_scattered 4 (0 ∷ 1 ∷ 3 ∷ 5 ∷ 6 ∷ []) ≡ 2 ∷ 1 ∷ 0 ∷ 3 ∷ []

readings : Readings
unfolding check_links sizes_test frames_fit places_fit starts_test starts_right lists_test faulty_list faulty_link holds degree
    check_order order_test faulty_rank stands degree_of ordered_by if_fine degree_tests scattered_of order_by
    scattered ahead before table count first some test ◌then◌
readings =
    record {
      self_link = refl;
      unsorted = refl;
      short_starts = refl;
      more_places = refl;
      repeat_first = refl;
      out_first = refl;
      most_frames_lem = refl;
      too_many_frames = refl;
      short_room = refl;
      ring_scattered = refl;
      chain_scattered = refl;
    }
