-- The loop has made the members of the pieces below p; the next one's rank is j, and its blocks stand from `from` on.
use Prim.Native.Nat.{ℕ, ◌≤◌}
use mathlib.Core.Path.{◌≡◌, ◌∙◌, subst}
use native.Mathlib.Numerals.{add-one}
use native.Mathlib.Omega.{arith}
use Rattle.volume.specs.Tables.{sector_at}
use Rattle.laws.proofs.Bounded.{count_before}
use Rattle.power.proofs.Storing.{Storing, storing_starts, storing_skips, storing_stores, storing_fails, storing_ends}
use Rattle.geometry.specs.Geometry.{pieces_for}
use Rattle.pieces.specs.Arrays.{flagged}
use Rattle.store.proofs.StoreLaws.{stores, member_stored, rank_starts, rank_skips, rank_grows, cursor_starts, cursor_skips, is_flagged, not_flagged}
use Rattle.store.proofs.store_members.Goals as goal

pub loop-p-init : goal.loop-p-init
loop-p-init c =
    (rank_starts _, cursor_starts _ c.requires.ready.ascending, storing_starts _ _ _ _)

pub loop-p-preserved-then-written-p-ne1 : goal.loop-p-preserved-then-written-p-ne1
loop-p-preserved-then-written-p-ne1 c =
    let not = not_flagged c.args.written.now c.loop-p.p c.if-written-p-ne1.true in (
      rank_skips _ c.loop-p.p c.loop-p.j not c.loop-p.invariant.0,
      cursor_skips _ _ c.loop-p.p c.loop-p.from c.requires.ready.touched not c.loop-p.invariant.1,
      rw add-one (storing_skips _ _ _ _ c.loop-p.p c.loop-p.left (sector_at c.loop-p.image) not c.loop-p.invariant.2),
    )

pub returns-in_err-left : goal.returns-in_err-left
returns-in_err-left c =
    let none : c.loop-p.left ≡ 0 = omega (arith, c.in_err-left.ensures) in
    let r = storing_fails (flagged c.args.written.now) (stores c.args.s c.args.map.now c.args.blocks.now c.args.news.now c.args.taken.now
    c.args.branches.now c.args.written.now c.args.count c.args.members) (sector_at c.args.image.now) c.args.allowance c.loop-p.p (pieces_for c.args.s.geometry.l)
    (sector_at c.loop-p.image) (omega arith) (is_flagged c.args.written.now c.loop-p.p c.if-written-p-ne1.false)
    (subst
    (λ (x : ℕ). Storing (flagged c.args.written.now) (stores c.args.s c.args.map.now c.args.blocks.now c.args.news.now c.args.taken.now c.args.branches.now c.args.written.now c.args.count c.args.members) (sector_at c.args.image.now) c.args.allowance c.loop-p.p x (sector_at c.loop-p.image))
    none c.loop-p.invariant.2) in
    (c.from_residual.ensures ∙ r.0, r.1)

pub store_member-from-requires : goal.store_member-from-requires
store_member-from-requires c =
    let b = count_before (flagged c.args.written.now) c.loop-p.p (pieces_for c.args.s.geometry.l) (omega arith) (is_flagged c.args.written.now c.loop-p.p c.if-written-p-ne1.false) in record {
      image_len = omega arith;
      map_len = c.requires.ready.whole;
      blocks_in_bounds = c.requires.ready.enough;
      by_index = c.requires.ready.inside;
      by_index_2 = c.requires.ready.below;
      members_value = c.requires.ready.taken_all;
      branches_len_bound = c.requires.ready.room;
      members_bound = c.requires.ready.numbers;
      j_lt_members = omega arith;
      p_lt_most_pieces = omega arith;
      cursor = c.loop-p.invariant.1;
    }

pub loop-p-preserved : goal.loop-p-preserved
loop-p-preserved c =
    let some : 1 ≤ c.loop-p.left = c.in_ok-left.ensures.0 in
    let here = is_flagged c.args.written.now c.loop-p.p c.if-written-p-ne1.false in (
      rank_grows c.args.written.now c.loop-p.p c.loop-p.j here c.loop-p.invariant.0,
      c.store_member-from.ensures.0,
      rw (add-one, c.in_ok-left.ensures.1)
          (storing_stores (flagged c.args.written.now)
          (stores c.args.s c.args.map.now c.args.blocks.now c.args.news.now c.args.taken.now c.args.branches.now c.args.written.now c.args.count c.args.members)
          (sector_at c.args.image.now) c.args.allowance c.loop-p.p c.loop-p.left (sector_at c.loop-p.image) _ here
          (omega arith) c.loop-p.invariant.2
          (member_stored c.args.s c.args.map.now c.args.blocks.now c.args.news.now c.args.taken.now c.args.branches.now c.args.written.now c.args.count c.args.members c.loop-p.p c.loop-p.j (sector_at c.loop-p.image) _ c.loop-p.invariant.0 c.store_member-from.ensures.1)),
    )

pub returns : goal.returns
returns c =
    let e : c.loop-p.p ≡ pieces_for c.args.s.geometry.l = (omega arith) in
    storing_ends (flagged c.args.written.now) (stores c.args.s c.args.map.now c.args.blocks.now c.args.news.now c.args.taken.now c.args.branches.now c.args.written.now
    c.args.count c.args.members) (sector_at c.args.image.now) c.args.allowance (pieces_for c.args.s.geometry.l) c.loop-p.left (sector_at c.loop-p.image)
    (subst
    (λ (x : ℕ). Storing (flagged c.args.written.now) (stores c.args.s c.args.map.now c.args.blocks.now c.args.news.now c.args.taken.now c.args.branches.now
    c.args.written.now c.args.count c.args.members) (sector_at c.args.image.now) c.args.allowance x c.loop-p.left (sector_at c.loop-p.image)) e c.loop-p.invariant.2)
