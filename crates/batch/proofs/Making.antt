-- How far a batch has come: what its commits answered so far, and that the rest of them, from here, make up the whole.
use Prim.Native.Nat.{ℕ, suc, ◌+◌, ◌*◌, ◌-◌, ◌≤◌, ◌<◌}
use mathlib.Core.Path.{◌≡◌, refl, sym, ◌∙◌, ap, subst}
use mathlib.Core.Bool.{true, cond, true≢false}
use mathlib.Core.List.{List, [], ◌∷◌, ◌++◌, append_assoc, append-nil}
use native.Mathlib.Numerals.{add-one}
use native.Mathlib.Omega.{arith}
use lib.ListN.{length, take, drop, length-append}
use lib.Dec.{ltb}
use borrow.Author.Tests.{eq-eqb, ne_eqb}
use Rattle.std.specs.Prelude.{Ok}
use Rattle.state.specs.declared.State.{State}
use Rattle.state.specs.declared.Outcome.{Outcome}
use Rattle.answer.specs.Answer.{number_of, cost_of}
use Rattle.layout.specs.Bounded.{is_zero, sum_below, list_from}
use Rattle.volume.specs.Tables.{Memory}
use Rattle.volume.specs.Store.{After, after}
use Rattle.volume.specs.Rules.{base}
use Rattle.batches.specs.Batch.{Commit, commit_made, Answered, answered_first, commits_made, total_cost, commits_lent, blocks_of, bytes_of, commit_at, commits_in, answer_of, answers_with, batch_done}
use Rattle.verdict.specs.Known.{KnownAgreed}
use Rattle.batch.specs.Batch.{batch_left}
use Rattle.batch.proofs.Costs.{Few, made_few}

-- These answers, and then what follows.
abbrev pub preceded : List Outcome → Answered → Answered
preceded outs later = record { outcomes = outs ++ later.outcomes; state = later.state; memory = later.memory }

-- One answer more.
total_more : (outs : List Outcome) (o : Outcome)
    → ((total_cost (outs ++ (o ∷ []))).stores ≡ (total_cost outs).stores + (cost_of o.answer).stores)
    × ((total_cost (outs ++ (o ∷ []))).skipped ≡ (total_cost outs).skipped + (cost_of o.answer).skipped)
unfolding total_cost
total_more [] o = (omega arith, omega arith)
total_more (p ∷ ps) o = let r = total_more ps o in let a = r.0 in let b = r.1 in (omega arith, omega arith)

put_next : (outs : List Outcome) (o : Outcome) (answers : List ℕ)
    → take (5 * length outs) (answers_with outs answers) ++ (answer_of o ++ drop (5 * length outs + 5) (answers_with outs answers)) ≡ answers_with (outs ++ (o ∷ [])) answers
unfolding answers_with
put_next [] o answers = refl
put_next (p ∷ ps) o answers =
    let e : 5 * length (p ∷ ps) ≡ suc (suc (suc (suc (suc (5 * length ps))))) = omega arith in
    let f : 5 * length (p ∷ ps) + 5 ≡ suc (suc (suc (suc (suc (5 * length ps + 5))))) = omega arith in
    rw (f, e) (ap (λ (xs : List ℕ). answer_of p ++ xs) (put_next ps o (drop 5 answers)))

module _ (words blocks bytes : List ℕ) (s₀ : State) (m₀ : Memory) (allowance : ℕ) (answers₀ : List ℕ) where
  abbrev whole : Answered
  whole = commits_made base s₀ m₀ (commits_in words blocks bytes) allowance

  abbrev rest : ℕ → List Commit
  rest i = list_from (commit_at words blocks bytes) i (commits_lent words - i)

  pub record Making (i : ℕ) (s : State) (m : Memory) (left skipped block byte : ℕ) (answers : List ℕ) : Type 0 where
    pub outs : List Outcome
    pub count : length outs ≡ i
    pub inside : i ≤ commits_lent words
    pub on : whole ≡ preceded outs (commits_made base s m (rest i) left)
    pub stores : (total_cost outs).stores + left ≡ allowance
    pub skips : (total_cost outs).skipped ≡ skipped
    pub few : skipped ≤ 21053120 * i
    pub block_is : block ≡ sum_below (blocks_of words) i
    pub byte_is : byte ≡ sum_below (bytes_of words) i
    pub answered : answers ≡ answers_with outs answers₀
    pub agree : KnownAgreed (ltb 0 i) s m

  pub making_starts : Making 0 s₀ m₀ allowance 0 0 0 answers₀
  unfolding commits_in total_cost sum_below answers_with
  making_starts =
      record {
        outs = [];
        count = refl;
        inside = omega arith;
        on = (let all : commits_lent words - 0 ≡ commits_lent words = omega arith in rw all refl);
        stores = omega arith;
        skips = refl;
        few = omega arith;
        block_is = refl;
        byte_is = refl;
        answered = refl;
        agree = λ e. absurd (true≢false (sym e));
      }

  -- The next commit, made and answered.
  module _ (i : ℕ) (s : State) (m : Memory) (left skipped block byte : ℕ) (answers : List ℕ) (u : Making i s m left skipped block byte answers)
      (more : i < commits_lent words) (o : Outcome) (m' : Memory) (made : after o m' ≡ commit_made base s m (commit_at words blocks bytes i) left)
      (answers' : List ℕ) (put : answers' ≡ take (5 * i) answers ++ (answer_of o ++ drop (5 * i + 5) answers)) where
    abbrev outs' : List Outcome
    outs' = u.outs ++ (o ∷ [])

    few_made : Few left (after o m')
    few_made = subst (Few left) (sym made) (made_few s m (commit_at words blocks bytes i) left)

    pub within_left : (cost_of o.answer).stores ≤ left
    within_left = few_made.stores

    pub skipped_fits : skipped + (cost_of o.answer).skipped ≤ 21053120 * (i + 1)
    skipped_fits = let a = u.few in let b = few_made.skipped in omega arith

    abbrev stop : Answered
    stop = record { outcomes = []; state = o.state; memory = m' }

    abbrev go_on : ℕ → Answered
    go_on left' = commits_made base o.state m' (rest (i + 1)) left'

    -- The whole, one answer further on.
    further : (later : Answered)
        → cond (is_zero (number_of o.answer)) (go_on (left - (cost_of o.answer).stores)) stop ≡ later
        → whole ≡ preceded outs' later
    unfolding commits_made list_from
    further later e =
        let next : commits_lent words - i ≡ suc (commits_lent words - (i + 1)) = omega arith in
        let cs = list_from (commit_at words blocks bytes) (suc i) (commits_lent words - suc i) in
        let one : commits_made base s m (rest i) left ≡ answered_first o (cond (is_zero (number_of o.answer)) (go_on (left - (cost_of o.answer).stores)) stop) =
        rw (next, add-one)
        (ap (λ (a : After). answered_first a.outcome (cond (is_zero (number_of a.outcome.answer))
        (commits_made base a.outcome.state a.memory cs (left - (cost_of a.outcome.answer).stores))
        (record { outcomes = []; state = a.outcome.state; memory = a.memory }))) (sym made)) in
        u.on ∙ ap (preceded u.outs) (one ∙ ap (answered_first o) e)
        ∙ ap (λ (xs : List Outcome). record { outcomes = xs; state = later.state; memory = later.memory }) (sym (append_assoc u.outs (o ∷ []) later.outcomes))

    count' : length outs' ≡ i + 1
    count' = length-append u.outs (o ∷ []) ∙ (let c = u.count in let z : length u.outs + 1 ≡ i + 1 = omega arith in z)

    answered' : answers' ≡ answers_with outs' answers₀
    answered' =
        put ∙ ap (λ (xs : List ℕ). take (5 * i) xs ++ (answer_of o ++ drop (5 * i + 5) xs)) u.answered
        ∙ subst (λ (k : ℕ). take (5 * k) (answers_with u.outs answers₀) ++ (answer_of o ++ drop (5 * k + 5) (answers_with u.outs answers₀)) ≡ answers_with outs' answers₀)
        u.count (put_next u.outs o answers₀)

    module _ (left' skipped' : ℕ) (l : left' + (cost_of o.answer).stores ≡ left) (k : skipped' ≡ skipped + (cost_of o.answer).skipped) where
      stores' : (total_cost outs').stores + left' ≡ allowance
      stores' = let t = (total_more u.outs o).0 in let e = u.stores in omega arith

      skips' : (total_cost outs').skipped ≡ skipped'
      skips' = let t = (total_more u.outs o).1 in let e = u.skips in omega arith

      pub making_more : number_of o.answer ≡ 0 → KnownAgreed true o.state m' → (block' byte' : ℕ)
          → block' ≡ block + blocks_of words i → byte' ≡ byte + bytes_of words i
          → Making (i + 1) o.state m' left' skipped' block' byte' answers'
      unfolding sum_below
      making_more ok known block' byte' b y =
          let fits = skipped_fits in
          let same : left - (cost_of o.answer).stores ≡ left' = omega arith in
          record {
            outs = outs';
            count = count';
            inside = omega arith;
            on = further (go_on left') (rw (eq-eqb (number_of o.answer) 0 ok, same) refl);
            stores = stores';
            skips = skips';
            few = omega arith;
            block_is = rw add-one (b ∙ ap (λ (x : ℕ). x + blocks_of words i) u.block_is);
            byte_is = rw add-one (y ∙ ap (λ (x : ℕ). x + bytes_of words i) u.byte_is);
            answered = answered';
            agree = λ e. known refl;
          }

      pub making_stops : (number_of o.answer ≡ 0 → ⊥) → (n stores : ℕ) → n ≡ i + 1 → stores + left' ≡ allowance
          → batch_left (record { verdict = Ok tt; answered = n; cost = record { stores = stores; skipped = skipped' }; state = o.state }) m' answers'
          ≡ batch_done whole answers₀
      making_stops turned n stores e f =
          let w = further stop (rw (ne_eqb (number_of o.answer) 0 turned) refl) in
          let t : stores ≡ (total_cost outs').stores = (let z = stores' in omega arith) in
          rw (w, append-nil outs', e, t, sym count', sym skips', answered') refl

  pub making_ends : (i : ℕ) (s : State) (m : Memory) (left skipped block byte : ℕ) (answers : List ℕ) → Making i s m left skipped block byte answers
      → commits_lent words ≤ i → (n stores : ℕ) → n ≡ i → stores + left ≡ allowance
      → batch_left (record { verdict = Ok tt; answered = n; cost = record { stores = stores; skipped = skipped }; state = s }) m answers ≡ batch_done whole answers₀
  unfolding commits_made list_from
  making_ends i s m left skipped block byte answers u h n stores e f =
      let none : commits_lent words - i ≡ 0 = omega arith in
      let w : whole ≡ record { outcomes = u.outs ++ []; state = s; memory = m } = rw none at u.on in
      let t : stores ≡ (total_cost u.outs).stores = (let z = u.stores in omega arith) in
      rw (w, append-nil u.outs, e, t, sym u.count, sym u.skips, u.answered) refl
