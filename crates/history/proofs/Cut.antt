-- "With k stores allowed, fewer than the call's list has, its first k are made, in order and whole; every other sector is as before", and
-- "the result's store count equals the length of the definition's store list cut there": of every call that is not refused, whole or cut.
use Prim.Native.Nat.{ℕ, zero, suc, ◌+◌, ◌-◌, ◌≤◌, ◌<◌}
use mathlib.Core.Path.{◌≡◌, refl, sym, ◌∙◌, ap, subst}
use mathlib.Core.Logic.{⊎_elim}
use mathlib.Core.Bool.{Bool, true, false, cond, true≢false}
use mathlib.Core.List.{List, [], ◌∷◌, ◌++◌}
use mathlib.Core.Option.{Option, none, some}
use native.Mathlib.Nat.{not-suc-le-zero}
use native.Mathlib.Omega.{arith}
use lib.ListN.{length, take, length-append}
use lib.Dec.{eqb}
use lib.Seq.{take_all, length-take-le}
use Rattle.std.specs.Prelude.{Result, Ok, Err, ⊤}
use Rattle.geometry.specs.declared.Geometry.{Geometry}
use Rattle.geometry.specs.declared.Drive.{Drive}
use Rattle.geometry.specs.declared.Settings.{Settings}
use Rattle.geometry.specs.Geometry.{pieces_for, settings_of}
use Rattle.state.specs.declared.State.{State}
use Rattle.answer.specs.declared.Cost.{Cost}
use Rattle.answer.specs.declared.Answer.{Answer}
use Rattle.answer.specs.declared.Answer.TheVariants.{Walked, Scanned}
use Rattle.answer.specs.declared.Loss.{Loss}
use Rattle.answer.specs.declared.Loss.TheVariants.{NoLog, DamagedLog}
use Rattle.answer.specs.declared.Refusal.{Refusal}
use Rattle.answer.specs.declared.Refusal.TheVariants.{BlockNumbers}
use Rattle.answer.specs.Answer.{is_refusal, refusal_number, cost_of}
use Rattle.layout.specs.Bounded.{is_zero}
use Rattle.layout.specs.MapSector.{View}
use Rattle.layout.specs.ParkRecord.{Parked, parked_in}
use Rattle.volume.specs.Tables.{Memory}
use Rattle.volume.specs.Refusals.{judged}
use Rattle.volume.specs.Store.{Store, After, Action, applied, performed, refused, unless_refused}
use Rattle.volume.specs.Format.{volume_in, size_checks, format_stores, format_action, format_of}
use Rattle.volume.specs.Rules.{Rules}
use Rattle.volume.specs.Commit.{Change, plan_action, commit_action}
use Rattle.volume.specs.Calls.{view_of, commit_checks, commit_of, write_change, drop_change, write_by, drop_by, read_checks, read_judged, read_of, park_checks, park_action, park_of}
use Rattle.volume.specs.Recover.{Log, Finding, found, missing, branch_count, is_blank, park_sector_cleared, walked_log, walk_complete, walk_finding, closed_up_to, scanned_log, scan_damaged, scan_stores, scan_finding}
use Rattle.volume.specs.Recover.{walk_starts, finding_from, finding_of, recovery_action, recovered, image_view, recover_of}
use Rattle.batches.specs.Batch.{Commit, commit_made, Answered, commits_made, total_cost, commits_in, batch_checks, batch_by}
use Rattle.history.specs.History.{Call, write, drop, batch, read, park, recover, World, made, accepted, stores_in}
use Rattle.history.specs.Cut.{commit_list, commits_list, listed, allowed}
use Rattle.laws.proofs.Bounded.{bool?, lt?, clash}
use Rattle.laws.proofs.Stores.{applied_append}
use Rattle.laws.proofs.Judged.{refusal_some, verdict?, performed_cut, performed_whole}

-- So many stores of a list are made, in order, and counted.
pub record CutThere (allowance : ℕ) (stores : List Store) (m : Memory) (r : After) : Type 0 where
  pub counts : (cost_of r.outcome.answer).stores ≡ length (take allowance stores)
  pub makes : r.memory.image ≡ applied (take allowance stores) m.image

module _ (allowance : ℕ) (a : Action) (m : Memory) (counted : (k : ℕ) → (a.cost k).stores ≡ k)
    (charges : (c : Cost) → cost_of (a.answer c) ≡ c) where
  pub performed_there : CutThere allowance a.stores m (performed allowance a m)
  performed_there =
      ⊎_elim (λ (h : allowance < length a.stores).
      subst (CutThere allowance a.stores m) (sym (performed_cut allowance a m h))
      (record {
        counts = counted allowance ∙ sym (length-take-le allowance a.stores (omega arith));
        makes = refl;
      }))
      (λ (h : length a.stores ≤ allowance).
      let all = take_all allowance a.stores h in
      subst (CutThere allowance a.stores m) (sym (performed_whole allowance a m h))
      (record {
        counts =
            ap (λ (c : Cost). c.stores) (charges (a.cost (length a.stores))) ∙ counted (length a.stores)
            ∙ ap length (sym all);
        makes = ap (λ (ss : List Store). applied ss m.image) (sym all);
      })) (lt? allowance (length a.stores))

-- A call that is not refused does what it does where no refusal applies.
passed : (v : Result ⊤ Refusal) (s : State) (m : Memory) (done : After) → is_refusal (unless_refused v s m done).outcome.answer ≡ false
    → unless_refused v s m done ≡ done
passed (Ok u) s m done e = refl
passed (Err r) s m done e = absurd (true≢false e)

module _ (v : Result ⊤ Refusal) (s : State) (m : Memory) (done : After) (allowance : ℕ) (stores : List Store) where
  unless_there : CutThere allowance stores m done → is_refusal (unless_refused v s m done).outcome.answer ≡ false
      → CutThere allowance stores m (unless_refused v s m done)
  unless_there t e = subst (CutThere allowance stores m) (sym (passed v s m done e)) t

-- What a recovery answers costs what its stores cost.
data Charges : Finding → Type 0 where
  charged : {log : Log} {answer : Cost → Answer} {stores : List Store} → ((c : Cost) → cost_of (answer c) ≡ c) → Charges (found log answer stores)
  lost : {loss : Loss} → Charges (missing loss)

either_charges : (b : Bool) (x y : Finding) → Charges x → Charges y → Charges (cond b x y)
either_charges true x y p q = p
either_charges false x y p q = q

scan_charges : (g : Geometry) (view : View) (sector0 : List ℕ) → Charges (scan_finding g view sector0)
unfolding scan_finding
scan_charges g view sector0 =
    let c = closed_up_to g.n view in
    let log = scanned_log g view c in
    let scan = found log (Scanned g.n) (scan_stores g.n view sector0 c) in
    let damaged = scan_damaged g view c log in
    either_charges (is_zero c) (missing NoLog) (cond damaged (missing DamagedLog) scan) lost
    (either_charges damaged (missing DamagedLog) scan lost (charged (λ k. refl)))

walk_charges : (g : Geometry) (view : View) (sector0 : List ℕ) (log : Log) (scan : Finding) → Charges scan
    → Charges (walk_finding g view sector0 log scan)
unfolding walk_finding
walk_charges g view sector0 log scan p =
    let reads = 2 + branch_count view log.tables.place (pieces_for g.l) in
    either_charges (walk_complete g log) (found log (Walked reads) (park_sector_cleared (is_blank sector0))) scan (charged (λ k. refl)) p

finding_charges : (g : Geometry) (view : View) (sector0 : List ℕ) (parked : Option Parked) → Charges (finding_from g view sector0 parked)
unfolding finding_from
finding_charges g view sector0 none = scan_charges g view sector0
finding_charges g view sector0 (some parked) =
    let scan = scan_finding g view sector0 in
    let log = walked_log g.l view parked in
    let p = scan_charges g view sector0 in
    either_charges (walk_starts g.n parked (view parked.tail)) (walk_finding g view sector0 log scan) scan (walk_charges g view sector0 log scan p) p

recovered_there : (g : Geometry) (drive : Drive) (allowance : ℕ) (m : Memory) (f : Finding) → Charges f
    → CutThere allowance (stores_in f) m (recovered g drive allowance m f)
unfolding recovered stores_in applied
recovered_there g drive allowance m (found log answer stores) (charged p) =
    performed_there allowance (recovery_action g drive log answer stores) m (λ k. refl) p
recovered_there g drive allowance m (missing loss) lost =
    let none_made : take {A = Store} allowance [] ≡ [] = take_all {A = Store} allowance [] (omega arith) in
    record {
      counts = ap length (sym none_made);
      makes = ap (λ (ss : List Store). applied ss m.image) (sym none_made);
    }

commit_there : (rules : Rules) (s : State) (m : Memory) (head : ℕ) (change : Change) (bytes_fit has_room : Bool) (allowance : ℕ)
    → is_refusal (commit_of rules s m head change bytes_fit has_room allowance).outcome.answer ≡ false
    → CutThere allowance (commit_action rules s m.tables (view_of s.geometry m.image) head change).stores m
    (commit_of rules s m head change bytes_fit has_room allowance)
unfolding commit_of commit_action plan_action
commit_there rules s m head change bytes_fit has_room allowance e =
    unless_there (judged (commit_checks rules s m head change.blocks bytes_fit has_room)) s m _ allowance _
    (performed_there allowance (commit_action rules s m.tables (view_of s.geometry m.image) head change) m (λ k. refl) (λ c. refl)) e

read_there : (v : Result ⊤ Refusal) (s : State) (m : Memory) (block : ℕ) (out : List ℕ) → CutThere 0 [] m (record { outcome = (read_judged v s m block out).outcome; memory = (read_judged v s m block out).memory })
unfolding read_judged applied
read_there (Ok u) s m block out = record { counts = refl; makes = refl }
read_there (Err r) s m block out = record { counts = refl; makes = refl }

-- What is known of a commit: refused it did nothing; otherwise it made the first of its stores, and all of them where it was accepted.
record OneThere (allowance : ℕ) (stores : List Store) (m : Memory) (r : After) : Type 0 where
  none : is_refusal r.outcome.answer ≡ true → ((cost_of r.outcome.answer).stores ≡ 0) × (r.memory.image ≡ m.image) × (accepted r ≡ false)
  some : is_refusal r.outcome.answer ≡ false → CutThere allowance stores m r
  enough : accepted r ≡ true → length stores ≤ allowance

refused_there : (allowance : ℕ) (stores : List Store) (x : Refusal) (s : State) (m : Memory) → OneThere allowance stores m (refused x s m)
refused_there allowance stores x s m =
    record {
      none = λ e. (refl, refl, refusal_some x);
      some = λ e. absurd (true≢false e);
      enough = λ e. clash (is_zero (refusal_number x)) e (refusal_some x);
    }

module _ (rules : Rules) (s : State) (m : Memory) (head : ℕ) (change : Change) (bytes_fit has_room : Bool) (allowance : ℕ) where
  abbrev action : Action
  action = commit_action rules s m.tables (view_of s.geometry m.image) head change

  performed_one : OneThere allowance action.stores m (performed allowance action m)
  unfolding commit_action plan_action
  performed_one =
      let there = performed_there allowance action m (λ k. refl) (λ c. refl) in
      ⊎_elim (λ (h : allowance < length action.stores).
      let is = performed_cut allowance action m h in
      record {
        none = λ e. absurd (true≢false (sym (subst (λ (r : After). is_refusal r.outcome.answer ≡ true) is e)));
        some = λ e. there;
        enough = λ e. absurd (true≢false (sym (subst (λ (r : After). accepted r ≡ true) is e)));
      })
      (λ (h : length action.stores ≤ allowance).
      let is = performed_whole allowance action m h in
      record {
        none = λ e. absurd (true≢false (sym (subst (λ (r : After). is_refusal r.outcome.answer ≡ true) is e)));
        some = λ e. there;
        enough = λ e. h;
      })
      (lt? allowance (length action.stores))

  commit_one : OneThere allowance action.stores m (commit_of rules s m head change bytes_fit has_room allowance)
  unfolding commit_of
  commit_one =
      ⊎_elim (λ (e : judged (commit_checks rules s m head change.blocks bytes_fit has_room) ≡ Ok tt). rw e performed_one)
      (λ v. rw v.1 (refused_there allowance action.stores v.0 s m))
      (verdict? (judged (commit_checks rules s m head change.blocks bytes_fit has_room)))

abbrev own_stores : Rules → State → Memory → Commit → List Store
own_stores rules s m c =
    commit_list rules (record { state = s; memory = m }) c.head (cond (eqb c.kind 0) (write_change c.blocks c.bytes) (drop_change c.blocks))

one_there : (rules : Rules) (s : State) (m : Memory) (c : Commit) (allowance : ℕ) → OneThere allowance (own_stores rules s m c) m (commit_made rules s m c allowance)
unfolding commit_made write_by write_change drop_change
one_there rules s m c allowance =
    ⊎_elim (λ (e : eqb c.kind 0 ≡ true). rw e (commit_one rules s m c.head _ _ _ allowance))
    (λ (e : eqb c.kind 0 ≡ false).
    ⊎_elim (λ (f : eqb c.kind 1 ≡ true). rw (e, f) (commit_one rules s m c.head _ _ _ allowance))
    (λ (f : eqb c.kind 1 ≡ false). rw (e, f) (refused_there allowance _ BlockNumbers s m))
    (bool? (eqb c.kind 1)))
    (bool? (eqb c.kind 0))

-- One list of stores after another: where the first is made whole, the rest of the allowance goes to the second.
both_taken : (allowance : ℕ) (first second : List Store) → length first ≤ allowance → take allowance (first ++ second) ≡ first ++ take (allowance - length first) second
both_taken allowance [] second h = ap (λ (k : ℕ). take k second) (let z : allowance ≡ allowance - 0 = omega arith in z)
both_taken zero (x ∷ xs) second h = absurd (not-suc-le-zero h)
both_taken (suc k) (x ∷ xs) second h =
    let z : suc k - length (x ∷ xs) ≡ k - length xs = omega arith in
    rw z (ap (λ (ss : List Store). x ∷ ss) (both_taken k xs second (omega arith)))

-- Of commits that are made one after the other.
record CommitsThere (allowance : ℕ) (stores : List Store) (m : Memory) (a : Answered) : Type 0 where
  counts : (total_cost a.outcomes).stores ≡ length (take allowance stores)
  makes : a.memory.image ≡ applied (take allowance stores) m.image

nothing_there : (allowance : ℕ) (m : Memory) (a : Answered) → (total_cost a.outcomes).stores ≡ 0 → a.memory.image ≡ m.image → CommitsThere allowance [] m a
unfolding applied
nothing_there allowance m a free same =
    let nil : take {A = Store} allowance [] ≡ [] = take_all {A = Store} allowance [] (omega arith) in
    record { counts = free ∙ ap length (sym nil); makes = same ∙ ap (λ (ss : List Store). applied ss m.image) (sym nil) }

commits_there : (rules : Rules) (cs : List Commit) (s : State) (m : Memory) (allowance : ℕ)
    → CommitsThere allowance (commits_list rules s m cs allowance) m (commits_made rules s m cs allowance)
unfolding commits_made commits_list total_cost
commits_there rules [] s m allowance = nothing_there allowance m _ refl refl
commits_there rules (c ∷ cs) s m allowance =
    let r = commit_made rules s m c allowance in
    let own = own_stores rules s m c in
    let one = one_there rules s m c allowance in
    ⊎_elim (λ (e : is_refusal r.outcome.answer ≡ true).
    let none = one.none e in
    rw (e, none.2) (nothing_there allowance m (record { outcomes = r.outcome ∷ []; state = r.outcome.state; memory = r.memory }) (let z = none.0 in omega arith) none.1))
    (λ (e : is_refusal r.outcome.answer ≡ false).
    let there = one.some e in
    ⊎_elim (λ (f : accepted r ≡ true).
    let enough = one.enough f in
    let all = take_all allowance own enough in
    let spent : (cost_of r.outcome.answer).stores ≡ length own = there.counts ∙ ap length all in
    let more = commits_there rules cs r.outcome.state r.memory (allowance - (cost_of r.outcome.answer).stores) in
    let later = commits_list rules r.outcome.state r.memory cs (allowance - (cost_of r.outcome.answer).stores) in
    let split : take allowance (own ++ later) ≡ own ++ take (allowance - (cost_of r.outcome.answer).stores) later =
    both_taken allowance own later enough ∙ ap (λ (k : ℕ). own ++ take (allowance - k) later) (sym spent) in
    rw (e, f)
    (record {
      counts =
          ap (λ (k : ℕ). k + (total_cost (commits_made rules r.outcome.state r.memory cs (allowance - (cost_of r.outcome.answer).stores)).outcomes).stores) spent ∙ ap (λ (k : ℕ). length own + k) more.counts
          ∙ sym (length-append own (take (allowance - (cost_of r.outcome.answer).stores) later)) ∙ ap length (sym split);
      makes =
          more.makes ∙ ap (applied (take (allowance - (cost_of r.outcome.answer).stores) later)) (there.makes ∙ ap (λ (ss : List Store). applied ss m.image) all)
          ∙ sym (applied_append own (take (allowance - (cost_of r.outcome.answer).stores) later) m.image)
          ∙ ap (λ (ss : List Store). applied ss m.image) (sym split);
    }))
    (λ (f : accepted r ≡ false).
    let counted = there.counts in
    rw (e, f) (record { counts = (let z : (cost_of r.outcome.answer).stores + 0 ≡ length (take allowance own) = omega arith in z); makes = there.makes }))
    (bool? (accepted r)))
    (bool? (is_refusal r.outcome.answer))

batch_there : (rules : Rules) (g : Geometry) (w : World) (words blocks bytes : List ℕ) (allowance : ℕ) (answers : List ℕ)
    → is_refusal (made rules g w (batch words blocks bytes allowance answers)).outcome.answer ≡ false
    → CutThere allowance (commits_list rules w.state w.memory (commits_in words blocks bytes) allowance) w.memory
    (made rules g w (batch words blocks bytes allowance answers))
unfolding made batch_by
batch_there rules g w words blocks bytes allowance answers e =
    let v = judged (batch_checks w.state w.memory words (length blocks) (length bytes) (length answers)) in
    let there = commits_there rules (commits_in words blocks bytes) w.state w.memory allowance in
    ⊎_elim (λ (p : v ≡ Ok tt). rw p (record { counts = there.counts; makes = there.makes }))
    (λ x. absurd (true≢false (rw x.1 at e)))
    (verdict? v)

-- Of every call of a history.
pub cut_there : (rules : Rules) (g : Geometry) (w : World) (call : Call)
    → is_refusal (made rules g w call).outcome.answer ≡ false
    → CutThere (allowed call) (listed rules g w call) w.memory (made rules g w call)
unfolding made listed allowed write_by drop_by read_of park_of park_action recover_of
cut_there rules g w (write head blocks bytes allowance) e = commit_there rules w.state w.memory head _ _ _ allowance e
cut_there rules g w (drop head blocks allowance) e = commit_there rules w.state w.memory head _ _ _ allowance e
cut_there rules g w (batch words blocks bytes allowance answers) e = batch_there rules g w words blocks bytes allowance answers e
cut_there rules g w (read block out) e = read_there (judged (read_checks w.state w.memory block (length out))) w.state w.memory block out
cut_there rules g w (park allowance) e =
    unless_there (judged (park_checks w.state w.memory)) w.state w.memory _ allowance _
    (performed_there allowance (park_action w.state w.memory) w.memory (λ k. refl) (λ c. refl)) e
cut_there rules g w (recover drive allowance) e =
    let settings = settings_of g drive in
    let volume = volume_in w.memory settings in
    let view = image_view volume w.memory.image in
    unless_there (judged (size_checks w.memory settings)) w.state w.memory _ allowance _
    (recovered_there volume drive allowance w.memory (finding_of volume view (w.memory.image 0)) (finding_charges volume view (w.memory.image 0) (parked_in (w.memory.image 0)))) e

-- And of a format.
pub format_there : (s : State) (m : Memory) (settings : Settings) (allowance : ℕ) → is_refusal (format_of s m settings allowance).outcome.answer ≡ false
    → CutThere allowance (format_stores (volume_in m settings)) m (format_of s m settings allowance)
unfolding format_of format_action
format_there s m settings allowance e =
    unless_there (judged (size_checks m settings)) s m _ allowance _ (performed_there allowance (format_action (volume_in m settings) settings.drive) m (λ k. refl) (λ c. refl)) e
