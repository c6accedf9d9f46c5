-- The starred cases hold: the left side of each computes to the value written out by hand.
use Rattle.std.specs.Prelude.{Ok, None}
use Prim.Native.Nat.{ℕ, zero, suc, ◌<◌}
use mathlib.Core.Path.{◌≡◌, refl}
use native.Mathlib.Omega.{arith}
use Rattle.basics.specs.Places.{first, some, stands, count, least, table, sum}
use Rattle.refusal.specs.Tests.{test, ◌then◌, if_fine}
use Rattle.theory.specs.Links.{in_list}
use Rattle.theory.specs.Distance.{far, weight, via, dist}
use Rattle.theory.specs.Rows.{hubs, keep, rule_row}
use Rattle.theory.specs.Plain.{joins_to, row_by}
use Rattle.refusal.specs.Sizes.{frames_fit, width_fits, places_fit, sizes_fit}
use Rattle.links.specs.Links.{starts_right, degree, holds, faulty_link, faulty_list, sizes_test, starts_test, lists_test}
use Rattle.links.specs.Order.{faulty_rank, order_test, before, ahead, order_by, ordered_by, degree_tests, degree_of}
use Rattle.entry.specs.Entry.{rank_of, joins_of, entry_of, decode, encode}
use Rattle.rows.specs.Rooms.{rooms_fit, room_tests, part, row_at, faulty_entry, sound_row, frame_test, frame_tests, row_test, rows_test}
use Rattle.rows.specs.Meetings.{meetings_at, meetings, goes_before, lesser_of, least_from, meeting_of}
use Rattle.rows.specs.Pair.{pair_tests, answered, pair_of}
use Rattle.rows.specs.Laid.{labels_of, counts_of}
use Rattle.build.specs.Build.{
  build_sizes,
  build_rooms,
  build_tests,
  full_at,
  far_frame,
  far_at,
  stop_at,
  walks_test,
  after_walks,
  after_tests,
  build_of,
}
use Rattle.fields.specs.Bits.{bit_len, num, bytes_of, byte_len, pad_len, packed}
use Rattle.fields.specs.Layout.{fields_from, header_fields, row_fields, file_fields, file_of}
use Rattle.file.specs.Index.{lengths_fit}
use Rattle.file.specs.Writer.{index_sizes, write_tests, out_fits, out_test, written_told, filled_from, write_of}
use Rattle.theorems.specs.Starred.{asked, chain_to, ring, three_to, one, Starred}

-- each of the four frames
each_frame : (P : ℕ → Type 0) → P 0 → P 1 → P 2 → P 3 → (v : ℕ) → v < 4 → P v
each_frame P a b c d zero h = a
each_frame P a b c d (suc zero) h = b
each_frame P a b c d (suc (suc zero)) h = c
each_frame P a b c d (suc (suc (suc zero))) h = d
each_frame P a b c d (suc (suc (suc (suc v)))) h = absurd (omega arith)

pub starred : Starred
unfolding chain_to ring three_to one first some count least table sum test ◌then◌ if_fine
    in_list far weight via dist hubs keep rule_row joins_to row_by
    frames_fit width_fits places_fit starts_right degree holds faulty_link faulty_list sizes_test starts_test lists_test
    stands faulty_rank order_test before ahead order_by ordered_by degree_tests degree_of
    rank_of joins_of entry_of decode encode sizes_fit rooms_fit room_tests part row_at faulty_entry frame_tests sound_row row_test frame_test meetings
    goes_before rows_test meetings_at lesser_of least_from meeting_of pair_tests answered pair_of
    labels_of counts_of build_sizes build_rooms build_tests full_at far_frame far_at stop_at walks_test after_walks after_tests build_of
    bit_len num bytes_of byte_len pad_len packed fields_from header_fields row_fields file_fields file_of
    write_tests lengths_fit index_sizes written_told out_fits out_test filled_from write_of
starred =
    record {
      chain_order = refl;
      chain_rows = refl;
      chain_room = refl;
      chain_pair = refl;
      one_hub_self = refl;
      one_hub_pair = refl;
      one_hub_true = refl;
      one_hub_near = refl;
      no_hub =
          λ s t h k.
          each_frame (λ u. asked 4 3 (chain_to 0) u t ≡ Ok None)
          (each_frame (λ v. asked 4 3 (chain_to 0) 0 v ≡ Ok None) refl refl refl refl t k)
          (each_frame (λ v. asked 4 3 (chain_to 0) 1 v ≡ Ok None) refl refl refl refl t k)
          (each_frame (λ v. asked 4 3 (chain_to 0) 2 v ≡ Ok None) refl refl refl refl t k)
          (each_frame (λ v. asked 4 3 (chain_to 0) 3 v ≡ Ok None) refl refl refl refl t k)
          s h;
      ring_entries = refl;
      ring_row = refl;
      ring_pair = refl;
      three_pair = refl;
      three_self = refl;
      one_file = refl;
    }
