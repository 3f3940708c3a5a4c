-- Document 02, point 5, "What will this cost me?": the quote of a commit. It is the plan of the commit, and nothing is stored.
use Rattle.std.specs.Prelude.{ℕ, ◌*◌, ◌-◌, Bool, true, false, ◌&&◌, List, ◌++◌, length, replicate, eqb, Result, Ok, Err, ⊤}
use Rattle.answer.specs.declared.Refusal.{Refusal}
use Rattle.answer.specs.Answer.{stores_alone}
use Rattle.state.specs.declared.State.{State}
use Rattle.geometry.specs.Geometry.{sector_bytes, branch_room, commit_sectors}
use Rattle.volume.specs.Tables.{Memory}
use Rattle.volume.specs.Refusals.{judged}
use Rattle.volume.specs.Rules.{Rules, base}
use Rattle.volume.specs.Commit.{Change, Plan, planned, bill}
use Rattle.volume.specs.Calls.{view_of, commit_checks, write_change, drop_change, room_for}
use Rattle.quotes.specs.declared.Quote.{Quote}

-- Words in front, and zeros in the rest of the room.
abbrev pub filled : ℕ → List ℕ → List ℕ
filled room words = words ++ replicate (room - length words) 0

-- What a plan would do: its places are the sectors that its stores go to, in their order.
unfoldable pub quote_of : Plan → Quote
quote_of plan =
    record {
      verdict = Ok tt;
      cost = bill plan (length plan.places);
      sectors = filled commit_sectors plan.places;
      listed = length plan.branches;
      branches = filled branch_room plan.branches;
      fold = plan.fold;
    }

-- The refusal, and nothing of each.
unfoldable pub no_quote : Refusal → Quote
no_quote r =
    record {
      verdict = Err r;
      cost = stores_alone 0;
      sectors = replicate commit_sectors 0;
      listed = 0;
      branches = replicate branch_room 0;
      fold = false;
    }

-- What a quote hands back, and what it leaves in what it was lent: it changes no memory.
pub record QuoteAfter : Type 0 where
  pub quote : Quote
  pub memory : Memory

abbrev pub quoted : Quote → Memory → QuoteAfter
quoted quote memory = record { quote = quote; memory = memory }

unfoldable pub quote_judged : Result ⊤ Refusal → Plan → Memory → QuoteAfter
quote_judged (Ok u) plan m = quoted (quote_of plan) m
quote_judged (Err r) plan m = quoted (no_quote r) m

-- It is judged as the commit is, and shows the plan that the commit would carry out.
unfoldable pub quote_by : Rules → State → Memory → ℕ → Change → Bool → Bool → QuoteAfter
quote_by rules s m head change lengths_fit has_room =
    let plan = planned rules s m.tables (view_of s.geometry m.image) head change in
    quote_judged (judged (commit_checks rules s m head change.blocks lengths_fit has_room)) plan m

-- The quote of a write, and of a drop. The caller may have lent buffers of its own for the answer, with lengths to fit: where they do not,
-- that is the refusal of a wrong length.
unfoldable pub quote_write_by : Rules → State → Memory → ℕ → List ℕ → List ℕ → Bool → QuoteAfter
quote_write_by rules s m head blocks bytes own_fit =
    quote_by rules s m head (write_change blocks bytes) (eqb (length bytes) (sector_bytes * length blocks) && own_fit) (room_for s m blocks)

unfoldable pub quote_drop_by : Rules → State → Memory → ℕ → List ℕ → Bool → QuoteAfter
quote_drop_by rules s m head blocks own_fit = quote_by rules s m head (drop_change blocks) own_fit true

abbrev pub quote_write_of : State → Memory → ℕ → List ℕ → List ℕ → Bool → QuoteAfter
quote_write_of = quote_write_by base

abbrev pub quote_drop_of : State → Memory → ℕ → List ℕ → Bool → QuoteAfter
quote_drop_of = quote_drop_by base
