-- Document 02, point 5: "Given enough stores, the real call made next on the same image, state and tables does just that. Given fewer, its
-- answer is 10."
use Rattle.std.specs.Prelude.{ℕ, suc, ◌≤◌, ◌<◌, ◌≡◌, ◌||◌, List, [], ◌∷◌, length, take, ltb, Ok, Err}
use Rattle.std.proofs.Math.Option.{some}
use Rattle.answer.specs.declared.Answer.TheVariants.{Accepted}
use Rattle.answer.specs.declared.Refusal.{Refusal}
use Rattle.answer.specs.Answer.{number_of, verdict_number}
use Rattle.state.specs.declared.State.{State}
use Rattle.geometry.specs.Geometry.{branch_room, commit_sectors, pieces_for}
use Rattle.layout.specs.Bounded.{at}
use Rattle.layout.specs.MapSector.{MapSector, decoded}
use Rattle.volume.specs.Tables.{Memory}
use Rattle.volume.specs.Store.{Store, After, applied, refused}
use Rattle.volume.specs.Rules.{Rules}
use Rattle.volume.specs.Commit.{touches, branches_for}
use Rattle.volume.specs.Calls.{view_of}
use Rattle.quotes.specs.declared.Quote.{Quote}
use Rattle.quotes.specs.Quote.{filled, no_quote, QuoteAfter}

-- The sectors that stores go to, in their order.
unfoldable pub sectors_of : List Store → List ℕ
sectors_of [] = []
sectors_of (s ∷ ss) = s.sector ∷ sectors_of ss

-- The map sector that stands in an image after so many data sectors of a quote: the first member, with the branches of the quote.
pub record FirstMember (s : State) (q : Quote) (data_sectors : ℕ) (image : ℕ → List ℕ) : Type 0 where
  pub member : MapSector
  pub stands : decoded s.geometry (image (at q.sectors data_sectors)) ≡ some member
  pub first : member.number ≡ suc s.number
  pub count : length member.branches ≡ q.listed
  pub branches : filled branch_room member.branches ≡ q.branches

-- What the call does that was quoted: a commit of these blocks with so many data sectors. `real k` is the real call with k stores allowed.
pub record Does (rules : Rules) (s : State) (m : Memory) (blocks : List ℕ) (data_sectors : ℕ) (q : Quote) (real : ℕ → After) : Type 0 where
  -- It has so many stores, which go to these sectors in this order. With k allowed the first k of them are made.
  pub stores : List Store
  pub count : length stores ≡ q.cost.stores
  pub order : filled commit_sectors (sectors_of stores) ≡ q.sectors
  pub made : (k : ℕ) → (real k).memory.image ≡ applied (take k stores) m.image
  -- "Given enough stores": it is accepted, with just these stores and this total.
  pub enough : (k : ℕ) → q.cost.stores ≤ k → (real k).outcome.answer ≡ Accepted q.cost
  -- "Given fewer, its answer is 10."
  pub fewer : (k : ℕ) → k < q.cost.stores → number_of (real k).outcome.answer ≡ 10
  -- Its first member has just these branches.
  pub branches : (k : ℕ) → q.cost.stores ≤ k → FirstMember s q data_sectors (real k).memory.image
  -- It folds where more than the limit would be listed: every piece is written then, and otherwise those of the named blocks alone.
  pub folds : q.fold
      ≡ ltb rules.branch_limit (length (branches_for s.geometry.l m.tables (view_of s.geometry m.image) s.number blocks))
  pub writes : (k p : ℕ) → q.cost.stores ≤ k → p < pieces_for s.geometry.l
      → ltb s.number ((real k).memory.tables.number p) ≡ (q.fold || touches blocks p)

-- What a quote is worth. The real call is made next, on the memory that the quote left.
pub record Promise (rules : Rules) (s : State) (m : Memory) (blocks : List ℕ) (data_sectors : ℕ) (q : QuoteAfter) (real : Memory → ℕ → After) : Type 0 where
  -- It changes no memory.
  pub same : q.memory ≡ m
  -- A refusal is the refusal of the real call, whatever that is allowed; it is never 10, and shows nothing of each.
  pub refusal : (r : Refusal) → q.quote.verdict ≡ Err r → (k : ℕ) → real q.memory k ≡ refused r s m
  pub never : verdict_number q.quote.verdict ≡ 10 → ⊥
  pub nothing : (r : Refusal) → q.quote.verdict ≡ Err r → q.quote ≡ no_quote r
  -- Otherwise the real call does just that.
  pub does : q.quote.verdict ≡ Ok tt → Does rules s m blocks data_sectors q.quote (real q.memory)
