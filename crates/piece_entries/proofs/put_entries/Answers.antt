-- The changes of the piece's blocks before i are in.
use native.Mathlib.Omega.{arith}
use Rattle.std.proofs.Common.{◌≡◌, ◌+◌, length, subst}
use Rattle.piece_entries.specs.Cursor.{Cursor}
use Rattle.piece_entries.proofs.EntryLaws.{changing_starts, changing_goes, changing_ends}
use Rattle.piece_entries.proofs.put_entries.Goals as goal

pub loop-i-init : goal.loop-i-init
loop-i-init c =
    changing_starts _ _ _ _ _ _ _ _ c.requires.map_len_bound c.requires.cursor c.put_piece.ensures

pub returns-then-end-b : goal.returns-then-end-b
returns-then-end-b c =
    changing_ends _ _ _ _ _ _ c.loop-i.i c.loop-i.s c.loop-i.invariant _ c.put_piece.ensures (λ h. omega arith)

pub overflow_sub-here : goal.overflow_sub-here
overflow_sub-here c =
    let h = c.loop-i.invariant.ahead c.loop-i.i (omega arith) c.loop-i-test.true in
    omega arith

pub loop-i-preserved : goal.loop-i-preserved
loop-i-preserved c =
    changing_goes _ _ _ _ _ _ c.loop-i.i c.loop-i.s c.loop-i.invariant _ c.loop-i-test.true c.if-end-b.false (c.requires.by_index c.loop-i.i c.loop-i-test.true) c.put_word.ensures

pub returns : goal.returns
returns c =
    let all : c.loop-i.i ≡ length c.args.blocks.now = omega arith in
    let ends = changing_ends _ _ _ _ _ _ c.loop-i.i c.loop-i.s c.loop-i.invariant _ c.put_piece.ensures (λ h. omega arith) in
    (subst (Cursor c.args.blocks.now (c.args.p + 1)) all ends.0, ends.1)
