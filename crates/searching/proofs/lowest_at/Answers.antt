-- Every sector at the position below k is used, and k is there on its track.
use Prim.Native.Nat.{◌*◌, ◌≤◌, ◌<◌}
use mathlib.Core.Path.{refl, ◌∙◌, sym}
use native.Mathlib.Nat.{mul-le-mul, le-mul_of_pos_right}
use native.Mathlib.Omega.{arith}
use Rattle.volume.specs.Tables.{bit_at}
use Rattle.searching.proofs.TrackLaws.{at_next}
use Rattle.searching.proofs.lowest_at.Goals as goal

pub overflow_mul-k : goal.overflow_mul-k
overflow_mul-k c =
    let few : _ * _ ≤ 255 * 65536 = mul-le-mul c.requires.known_bound c.requires.size_le_most_sectors in
    omega arith

pub overflow_add-k : goal.overflow_add-k
overflow_add-k c =
    let few : _ * _ ≤ 255 * 65536 = mul-le-mul c.requires.known_bound c.requires.size_le_most_sectors in
    omega arith

pub loop-k-init : goal.loop-k-init
loop-k-init c = (refl, c.requires.used_at)

pub is_set-requires : goal.is_set-requires
is_set-requires c =
    omega arith

pub overflow_add-k-in-loop-k : goal.overflow_add-k-in-loop-k
overflow_add-k-in-loop-k c =
    omega arith

pub overflow_add-track : goal.overflow_add-track
overflow_add-track c =
    let less = le-mul_of_pos_right c.loop-k.track (let x : 0 < c.args.size = omega arith in x) in
    omega arith

pub loop-k-smaller : goal.loop-k-smaller
loop-k-smaller c =
    omega arith

pub loop-k-preserved : goal.loop-k-preserved
loop-k-preserved c =
    at_next (bit_at c.args.used.now) c.args.size c.args.position c.loop-k.track c.loop-k.k c.requires.position_lt_size c.loop-k.invariant.0 (sym c.is_set.ensures ∙ c.if-is_set.true) c.loop-k.invariant.1

pub returns-after-loop-k : goal.returns-after-loop-k
returns-after-loop-k c =
    (c.loop-k.invariant.0, c.loop-k.invariant.1, λ h. absurd (omega arith))

pub returns-else-is_set : goal.returns-else-is_set
returns-else-is_set c =
    (c.loop-k.invariant.0, c.loop-k.invariant.1, λ h. sym c.is_set.ensures ∙ c.if-is_set.false)
