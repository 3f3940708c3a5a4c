-- Document 01, "Members": a commit is planned before anything is stored. Write and drop share it.
use Rattle.std.specs.Prelude.{ℕ, zero, suc, ◌+◌, ◌-◌, Bool, false, cond, not, ◌&&◌, ◌||◌, List, [], ◌∷◌, ◌++◌, length, eqb, ltb}
use Rattle.std.proofs.Math.Option.{Option, none, some}
use Rattle.state.specs.declared.State.{State}
use Rattle.answer.specs.declared.Answer.TheVariants.{Accepted}
use Rattle.answer.specs.declared.Cost.{Cost}
use Rattle.layout.specs.Bounded.{at, any_below, count_below, best, elem, is_zero, list_from, tabled, updates, always}
use Rattle.geometry.specs.Geometry.{pieces_for, piece_of}
use Rattle.layout.specs.MapSector.{MapSector, View, encoded}
use Rattle.volume.specs.Tables.{Tables, named_by, used_by, piece_entries}
use Rattle.state.specs.State.{committed_state, cut_state}
use Rattle.volume.specs.Store.{Store, stores_below, Action}
use Rattle.tracks.specs.Placing.{place_of, skipped_by}
use Rattle.volume.specs.Rules.{Rules}

-- What a commit does to the blocks it names: how many data sectors it stores and what stands in each, and the entry that
-- the i-th named block gets, given the place of the i-th data sector.
pub record Change : Type 0 where
  pub blocks : List ℕ
  pub data_sectors : ℕ
  pub content : ℕ → List ℕ
  pub entry : ℕ → ℕ → ℕ

-- A piece is touched where one of the named blocks is in it.
unfoldable pub touches : List ℕ → ℕ → Bool
touches blocks p = any_below (λ i. eqb (piece_of (at blocks i)) p) (length blocks)

-- The branches of a map sector.
unfoldable pub branches_in : Option MapSector → List ℕ
branches_in none = []
branches_in (some m) = m.branches

-- The candidates for the next branch: remaining live sectors, those of untouched pieces, older than `bound`.
unfoldable pub older_key : Tables → (ℕ → Bool) → ℕ → ℕ → ℕ
older_key t remaining bound q = cond (remaining q && ltb (t.number q) bound) (t.number q) 0

-- The remaining sectors older than `bound`, newest to oldest: one is listed unless already reached from a listed one
-- through remaining sectors. A branch counts only if its target has a lower number. `reached` goes by piece.
unfoldable pub listing : ℕ → Tables → View → (ℕ → Bool) → ℕ → ℕ → (ℕ → Bool) → List ℕ
listing pieces t view remaining zero bound reached = []
listing pieces t view remaining (suc steps) bound reached =
    let key = older_key t remaining bound in
    let newest = best key pieces in
    let place = t.place newest in
    let number = t.number newest in
    let branches = branches_in (view place) in
    let reached' : ℕ → Bool = λ q. reached q || (elem (t.place q) branches && ltb (t.number q) number) in
    let older = listing pieces t view remaining steps number reached' in
    let listed = cond (reached newest) older (place ∷ older) in
    cond (is_zero (key newest)) [] listed

-- What the first member of a commit would list.
unfoldable pub branches_for : ℕ → Tables → View → ℕ → List ℕ → List ℕ
branches_for l t view number blocks =
    let pieces = pieces_for l in
    let remaining = tabled false pieces (λ q. not (touches blocks q)) in
    listing pieces t view remaining pieces (suc number) (λ _. false)

-- A planned commit: whether it folds, the first member's branches, the pieces written and how many, the sectors taken, in
-- order (first the data sectors, then the members), and the sum of the delays to the first so many.
pub record Plan : Type 0 where
  pub fold : Bool
  pub branches : List ℕ
  pub written : ℕ → Bool
  pub members : ℕ
  pub data_sectors : ℕ
  pub places : List ℕ
  pub skipped : ℕ → ℕ

-- If more than the limit would be listed, every piece is written and the first member has no branches.
unfoldable pub planned : Rules → State → Tables → View → ℕ → Change → Plan
planned rules s t view head change =
    let pieces = pieces_for s.geometry.l in
    let listed = branches_for s.geometry.l t view s.number change.blocks in
    let fold = ltb rules.branch_limit (length listed) in
    let written = tabled false pieces (λ q. fold || touches change.blocks q) in
    let members = count_below written pieces in
    let choice = rules.placing s.drive in
    let places = list_from (place_of choice s.geometry.n t.is_used head) 0 (change.data_sectors + members) in
    record {
      fold = fold;
      branches = cond fold [] listed;
      written = written;
      members = members;
      data_sectors = change.data_sectors;
      places = places;
      skipped = skipped_by choice s.geometry.n t.is_used head;
    }

-- Members are the written pieces, ascending: how many come before a piece, and where a member goes. Data goes first.
unfoldable pub rank : Plan → ℕ → ℕ
rank plan p = count_below plan.written p

unfoldable pub member_place : Plan → ℕ → ℕ
member_place plan j = at plan.places (plan.data_sectors + j)

-- The entries after the commit: each named block has its new one.
unfoldable pub changed_entries : Plan → Change → (ℕ → ℕ) → ℕ → ℕ
changed_entries plan change entry =
    updates entry (at change.blocks) (λ i. change.entry i (at plan.places i)) (length change.blocks)

-- The tables that a whole commit leaves.
unfoldable pub committed_tables : State → Tables → Plan → Change → Tables
committed_tables s t plan change =
    let entry = changed_entries plan change t.entry in
    let place : ℕ → ℕ = λ p. cond (plan.written p) (member_place plan (rank plan p)) (t.place p) in
    let named = named_by s.geometry.l entry place in
    record {
      entry = entry;
      place = place;
      number = λ p. cond (plan.written p) (suc (s.number + rank plan p)) (t.number p);
      is_used = used_by named;
    }

-- Numbered from the tail's number + 1; the last one is closing; each after the first has one branch, to the member before.
unfoldable pub member : State → Tables → Plan → Change → ℕ → MapSector
member s t plan change p =
    let j = rank plan p in
    record {
      number = suc (s.number + j);
      piece = p;
      closing = eqb (suc j) plan.members;
      branches = cond (is_zero j) plan.branches (member_place plan (j - 1) ∷ []);
      entries = piece_entries s.geometry.l (committed_tables s t plan change).entry p;
    }

-- The i-th data sector, and the map sector of a written piece.
unfoldable pub data_store : Plan → Change → ℕ → Store
data_store plan change i = record { sector = at plan.places i; bytes = change.content i }

unfoldable pub member_store : State → Tables → Plan → Change → ℕ → Store
member_store s t plan change p =
    let place = member_place plan (rank plan p) in
    record { sector = place; bytes = encoded s.geometry.l (member s t plan change p) }

-- Data in block order, then the map sectors.
unfoldable pub commit_stores : State → Tables → Plan → Change → List Store
commit_stores s t plan change =
    stores_below always (data_store plan change) change.data_sectors
    ++ stores_below plan.written (member_store s t plan change) (pieces_for s.geometry.l)

-- The bill of a commit: its stores, and the sectors skipped on the way to their places.
abbrev pub bill : Plan → ℕ → Cost
bill plan stores = record { stores = stores; skipped = plan.skipped stores }

-- What a planned commit does.
unfoldable pub plan_action : State → Tables → Plan → Change → Action
plan_action s t plan change =
    record {
      stores = commit_stores s t plan change;
      cost = bill plan;
      answer = Accepted;
      state = committed_state s (member_place plan (plan.members - 1)) (s.number + plan.members);
      tables = committed_tables s t plan change;
      cut_state = cut_state s;
      cut_tables = t;
    }

unfoldable pub commit_action : Rules → State → Tables → View → ℕ → Change → Action
commit_action rules s t view head change = plan_action s t (planned rules s t view head change) change
