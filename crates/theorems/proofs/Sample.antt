-- The chain 0-1-2-3 and its order meet the premises of every theorem: the paper's tests let them through.
use mathlib.Core.Path.{refl}
use native.Mathlib.Omega.{arith}
use Rattle.basics.specs.Places.{first, some, stands}
use Rattle.refusal.specs.Tests.{test}
use Rattle.theory.specs.Links.{Block, Order}
use Rattle.theory.specs.Plain.{ones}
use Rattle.links.specs.Links.{starts_right, degree, holds, faulty_link, faulty_list, starts_test, lists_test}
use Rattle.links.specs.Order.{faulty_rank, order_test}
use Rattle.links.proofs.Links.{links_sound}
use Rattle.links.proofs.Order.{order_sound}
use Rattle.theorems.specs.Starred.{chain_s, chain_l, chain_o}

pub sample_block : Block 4 1 chain_s chain_l ones
unfolding starts_test starts_right lists_test faulty_list faulty_link holds degree first some test
sample_block =
    links_sound 4 chain_s chain_l
    (record { one = omega arith; frames = omega arith; places = omega arith; long = refl })
    refl
    refl

pub sample_order : Order 4 chain_o
unfolding order_test faulty_rank stands first some test
sample_order = order_sound 4 chain_o refl refl
