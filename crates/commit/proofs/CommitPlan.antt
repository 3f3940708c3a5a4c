-- From the checks and the plan to what storing and settling rely on, and from the arrays to the action of the definition.
use Prim.Native.Nat.{ℕ, suc, ◌+◌, ◌-◌, ◌≤◌, ◌<◌, ◌^◌}
use mathlib.Core.Path.{◌≡◌, refl, sym, ◌∙◌, ap, ap₂, subst}
use mathlib.Core.Logic.{◌⊎◌, ⊎_elim}
use mathlib.Core.Bool.{Bool, true, false, not}
use mathlib.Core.List.{List, [], ◌++◌}
use native.Mathlib.Omega.{arith}
use lib.ListN.{length, take, drop, replicate, length-append, length-drop, length-replicate, get_or-append}
use lib.Seq.{get_or-append-add, get_or-drop, length-take-le}
use lib.Dec.{eqb, ltb}
use borrow.Author.Tests.{eq-eqb, ne_eqb}
use Rattle.std.specs.Prelude.{Ok}
use Rattle.laws.proofs.Filling.{zeros_get}
use Rattle.state.specs.declared.State.{State}
use Rattle.geometry.specs.Geometry.{pieces_for, piece_of}
use Rattle.layout.specs.Bounded.{at, count_below, is_zero, list_from, always}
use Rattle.layout.specs.MapSector.{View}
use Rattle.layout.specs.Entry.{is_empty, sector_of, stored, entry_for}
use Rattle.volume.specs.Tables.{Memory, bit_at, memory, sector_at, tables_of, used_by, free_sectors}
use Rattle.volume.specs.Store.{stores_below, Action, performed}
use Rattle.tracks.specs.Placing.{least_delay, place_of}
use Rattle.volume.specs.Rules.{base}
use Rattle.volume.specs.Commit.{Plan, touches, branches_for, planned, rank, member_place, changed_entries, committed_tables, member, data_store, member_store, commit_stores, bill, plan_action, commit_action}
use Rattle.volume.specs.Refusals.{judged}
use Rattle.volume.specs.Calls.{view_of, commit_checks, write_change, drop_change}
use Rattle.laws.proofs.Bounded.{or_r, cond_true, cond_false, tabled_at, tabled_past, any_below_is, count_before, count_le, count_always, length_list_from, list_from_at}
use Rattle.laws.proofs.Codec.{entry_sector, entry_full}
use Rattle.laws.proofs.Names.{sound}
use Rattle.laws.proofs.Placing.{base_chooses, place_below, place_low}
use Rattle.laws.proofs.Sizes.{Fits, fits}
use Rattle.laws.proofs.Stores.{below_length}
use Rattle.power.specs.Power.{made}
use Rattle.power.proofs.Performing.{performed_cost}
use Rattle.pieces.specs.Arrays.{flagged, plan_of, change_of, Settling, Planning}
use Rattle.plan.proofs.PlanLaws.{listing_any}
use Rattle.commit.specs.Commit.{change_with, change_by}
use Rattle.verdict.proofs.CommitChecks.{Passed, passed}
use Rattle.commit.proofs.CommitLaws.{action_plan, action_change}

module _ (s : State) (im mp pl nu us : List ℕ) (head : ℕ) (blocks : List ℕ) (count : ℕ)
    (pass : Ok tt ≡ judged (commit_checks base s (memory im mp pl nu us) head blocks true (not (ltb (free_sectors s.geometry.n (bit_at us)) (count + pieces_for s.geometry.l)))))
    (how : (count ≡ 0) ⊎ (count ≡ length blocks)) where
  p : Passed s im mp pl nu us head blocks count
  p = passed s im mp pl nu us head blocks count pass

  abbrev view : View
  view = view_of s.geometry (sector_at im)

  abbrev pub the_plan : Plan
  the_plan = planned base s (tables_of [] pl nu us) view head (change_of blocks [] count)

  fit : Fits s.geometry
  fit = fits s.geometry p.range

  few_data : count ≤ length blocks
  few_data = ⊎_elim (λ (e : count ≡ 0). omega arith) (λ (e : count ≡ length blocks). omega arith) how

  pub few_blocks : count ≤ 64
  few_blocks = let few = few_data in let high = p.high in omega arith

  written_in : (q : ℕ) → q < pieces_for s.geometry.l → touches blocks q ≡ true → the_plan.written q ≡ true
  unfolding planned
  written_in q h e = tabled_at false (pieces_for s.geometry.l) _ q h ∙ or_r the_plan.fold (touches blocks q) e

  written_past : (q : ℕ) → pieces_for s.geometry.l ≤ q → the_plan.written q ≡ false
  unfolding planned
  written_past q h = tabled_past false (pieces_for s.geometry.l) _ q h

  members_are : the_plan.members ≡ count_below the_plan.written (pieces_for s.geometry.l)
  unfolding planned
  members_are = refl

  places_are : the_plan.places ≡ list_from (place_of (least_delay s.drive) s.geometry.n (bit_at us) head) 0 (count + the_plan.members)
  unfolding planned
  places_are = refl

  data_are : count ≡ the_plan.data_sectors
  unfolding planned
  data_are = refl

  -- The piece of a named block is written.
  piece_inside : (i : ℕ) → i < length blocks → piece_of (at blocks i) < pieces_for s.geometry.l
  piece_inside i h = let inside = p.inside i h in omega arith

  touched_written : (i : ℕ) → i < length blocks → the_plan.written (piece_of (at blocks i)) ≡ true
  unfolding touches
  touched_written i h =
      let q = piece_of (at blocks i) in
      written_in q (piece_inside i h) (any_below_is (λ i. eqb (piece_of (at blocks i)) q) (length blocks) i h (eq-eqb q q refl))

  members_some : 1 ≤ the_plan.members
  members_some =
      let low = p.low in
      let one = count_before the_plan.written (piece_of (at blocks 0)) (pieces_for s.geometry.l) (piece_inside 0 (omega arith)) (touched_written 0 (omega arith)) in
      let e = members_are in
      omega arith

  members_few : the_plan.members ≤ pieces_for s.geometry.l
  members_few = let e = members_are in let h = count_le the_plan.written (pieces_for s.geometry.l) in omega arith

  zero_used : bit_at us 0 ≡ true
  unfolding used_by
  zero_used =
      let least = fit.least in
      (sound s.geometry (tables_of mp pl nu us) s.tail s.number p.sound_tables).used 0 (omega arith)

  module _ (first members : ℕ) (bs written taken ts : List ℕ) (skipped allowance : ℕ)
      (g : Planning the_plan first members bs written count taken skipped allowance) (slice : ts ≡ take (count + members) taken) where
    pub some_members : 1 ≤ members
    some_members = let e = g.members_are in let h = members_some in omega arith

    pub few_members : members ≤ 256
    few_members = let e = g.members_are in let h = members_few in let m = fit.most in omega arith

    pub total_few : count + members ≤ 320
    total_few = let h = few_members in let k = few_data in let z = p.high in omega arith

    ts_are : ts ≡ list_from (place_of (least_delay s.drive) s.geometry.n (bit_at us) head) 0 (count + members)
    ts_are =
        slice ∙ g.taken_are ∙ places_are
        ∙ ap (λ (k : ℕ). list_from (place_of (least_delay s.drive) s.geometry.n (bit_at us) head) 0 (count + k)) (sym g.members_are)

    ts_length : length ts ≡ count + members
    ts_length = ap length ts_are ∙ length_list_from (place_of (least_delay s.drive) s.geometry.n (bit_at us) head) 0 (count + members)

    ts_at : (i : ℕ) → i < count + members → at ts i ≡ place_of (least_delay s.drive) s.geometry.n (bit_at us) head i
    ts_at i h =
        ap (λ (xs : List ℕ). at xs i) ts_are ∙ list_from_at (place_of (least_delay s.drive) s.geometry.n (bit_at us) head) 0 (count + members) i 0 h
        ∙ ap (place_of (least_delay s.drive) s.geometry.n (bit_at us) head) (let e : 0 + i ≡ i = omega arith in e)

    room : count + members ≤ free_sectors s.geometry.n (bit_at us)
    room = let e = g.members_are in let h = members_few in let r = p.room in omega arith

    pub ts_below : (i : ℕ) → i < count + members → at ts i < s.geometry.n
    ts_below i h =
        let least = fit.least in
        subst (λ (x : ℕ). x < s.geometry.n) (sym (ts_at i h))
        (place_below (least_delay s.drive) s.geometry.n (base_chooses.places s.geometry.n s.drive p.drive) (bit_at us) zero_used head p.head_below (count + members) room i h)

    ts_low : (i : ℕ) → i < count + members → 1 ≤ at ts i
    ts_low i h =
        let least = fit.least in
        subst (λ (x : ℕ). 1 ≤ x) (sym (ts_at i h))
        (place_low (least_delay s.drive) s.geometry.n (base_chooses.places s.geometry.n s.drive p.drive) (bit_at us) zero_used head p.head_below (count + members) room i h)

    pub ts_word : (i : ℕ) → i < count → at ts i < 2 ^ 31
    ts_word i h = let z = ts_below i (omega arith) in let n = fit.sectors in omega arith

    pub ts_enough : count ≤ length ts
    ts_enough = let e = ts_length in omega arith

    pub ts_all : length taken ≡ 320 → count + members ≡ length ts
    ts_all e = let h = total_few in sym (length-take-le (count + members) taken (omega arith)) ∙ ap length (sym slice)

    -- The new entries: those of the data sectors, then zeros.
    module _ (bytes news : List ℕ) (new : news ≡ list_from (λ i. entry_for (sector_at bytes i) (at ts i)) 0 count ++ drop count (replicate 64 0)) where
      news_length : length news ≡ 64
      news_length =
          let k = few_data in
          let z = p.high in
          let a = length-append (list_from (λ i. entry_for (sector_at bytes i) (at ts i)) 0 count) (drop count (replicate 64 0)) in
          let b = length_list_from (λ i. entry_for (sector_at bytes i) (at ts i)) 0 count in
          let c = length-drop count (replicate {A = ℕ} 64 0) in
          let d = length-replicate {A = ℕ} 64 0 in
          ap length new ∙ (let e : length (list_from (λ i. entry_for (sector_at bytes i) (at ts i)) 0 count ++ drop count (replicate 64 0)) ≡ 64 = omega arith in e)

      news_here : (i : ℕ) → i < count → at news i ≡ entry_for (sector_at bytes i) (at ts i)
      news_here i h =
          let b = length_list_from (λ i. entry_for (sector_at bytes i) (at ts i)) 0 count in
          ap (λ (xs : List ℕ). at xs i) new
          ∙ get_or-append (list_from (λ i. entry_for (sector_at bytes i) (at ts i)) 0 count) (drop count (replicate 64 0)) 0 i (omega arith)
          ∙ list_from_at (λ i. entry_for (sector_at bytes i) (at ts i)) 0 count i 0 h
          ∙ ap (λ (x : ℕ). entry_for (sector_at bytes x) (at ts x)) (let e : 0 + i ≡ i = omega arith in e)

      news_past : (i : ℕ) → count ≤ i → at news i ≡ 0
      news_past i h =
          let b = length_list_from (λ i. entry_for (sector_at bytes i) (at ts i)) 0 count in
          ap (λ (xs : List ℕ). at xs i) new
          ∙ ap (λ (x : ℕ). at (list_from (λ i. entry_for (sector_at bytes i) (at ts i)) 0 count ++ drop count (replicate 64 0)) x)
          (let e : i ≡ length (list_from (λ i. entry_for (sector_at bytes i) (at ts i)) 0 count) + (i - count) = omega arith in e)
          ∙ get_or-append-add (list_from (λ i. entry_for (sector_at bytes i) (at ts i)) 0 count) (drop count (replicate 64 0)) (i - count) 0
          ∙ get_or-drop count (replicate 64 0) (i - count) 0 ∙ zeros_get 64 (count + (i - count))

      pub settling : length written ≡ 256 → Settling s.geometry s.number blocks news ts count written
      settling w =
          let most = fit.most in
          let flags = g.written_are in
          let counted : count_below (flagged written) (pieces_for s.geometry.l) ≡ members
          = ap (λ (f : ℕ → Bool). count_below f (pieces_for s.geometry.l)) flags ∙ sym members_are ∙ sym g.members_are in
          let len = ts_length in
          let few = few_members in
          let num = p.few in
          let size = news_length in
          let high = p.high in
          record {
            inside = p.inside;
            ascending = p.ascending;
            touched = λ i h. ap (λ (f : ℕ → Bool). f (piece_of (at blocks i))) flags ∙ touched_written i h;
            enough = omega arith;
            few = few_data;
            full = λ i h. ap is_empty (news_here i h) ∙ entry_full (sector_at bytes i) (at ts i) (ts_low i (omega arith));
            names = λ i h. ap sector_of (news_here i h) ∙ entry_sector (sector_at bytes i) (at ts i) (ts_word i h);
            emptied = λ i h k. news_past i h;
            below = λ i h. ts_below i (omega arith);
            flags = omega arith;
            past = λ q h. ap (λ (f : ℕ → Bool). f q) flags ∙ written_past q h;
            taken_all = omega arith;
            numbers = omega arith;
          }

      pub members_counted : members ≡ count_below (flagged written) (pieces_for s.geometry.l)
      members_counted = g.members_are ∙ members_are ∙ ap (λ (f : ℕ → Bool). count_below f (pieces_for s.geometry.l)) (sym g.written_are)

      -- The same plan of the tables with their map, and of the change itself.
      branches_any : branches_for s.geometry.l (tables_of [] pl nu us) view s.number blocks ≡ branches_for s.geometry.l (tables_of mp pl nu us) view s.number blocks
      unfolding branches_for
      branches_any = listing_any (pieces_for s.geometry.l) [] mp pl nu us us view _ (pieces_for s.geometry.l) (suc s.number) (λ _. false)

      plan_any : (content : ℕ → List ℕ) (entry : ℕ → ℕ → ℕ)
          → the_plan ≡ planned base s (tables_of mp pl nu us) view head (record { blocks = blocks; data_sectors = count; content = content; entry = entry })
      unfolding planned
      plan_any content entry = rw branches_any refl

      -- The plan in the arrays, with what is skipped for every number of stores.
      abbrev billed : Plan
      billed =
          record {
            fold = false;
            branches = take first bs;
            written = flagged written;
            members = members;
            data_sectors = count;
            places = ts;
            skipped = the_plan.skipped;
          }

      action_any : (content : ℕ → List ℕ) (entry : ℕ → ℕ → ℕ) → ((i : ℕ) → i < count → stored (sector_at bytes i) ≡ content i)
          → ((i : ℕ) → i < length blocks → at news i ≡ entry i (at ts i))
          → plan_action s (tables_of mp pl nu us) billed (change_with blocks bytes news count)
          ≡ commit_action base s (tables_of mp pl nu us) view head (record { blocks = blocks; data_sectors = count; content = content; entry = entry })
      unfolding commit_action plan_action
      action_any content entry same new =
          let here : ts ≡ the_plan.places = slice ∙ g.taken_are in
          action_plan s (tables_of mp pl nu us) the_plan (change_with blocks bytes news count) (take first bs) (flagged written) members count ts g.branches_are g.written_are g.members_are data_are here
          ∙ action_change s (tables_of mp pl nu us) the_plan blocks count (λ i. stored (sector_at bytes i)) content (λ i _. at news i) entry same
          (λ i h. new i h ∙ ap (λ (xs : List ℕ). entry i (at xs i)) here)
          ∙ ap (λ (q : Plan). plan_action s (tables_of mp pl nu us) q (record { blocks = blocks; data_sectors = count; content = content; entry = entry })) (plan_any content entry)

      commit_action_lem : plan_action s (tables_of mp pl nu us) billed (change_with blocks bytes news count)
          ≡ commit_action base s (tables_of mp pl nu us) view head (change_by blocks bytes count)
      unfolding write_change drop_change
      commit_action_lem =
          ⊎_elim (λ (z : count ≡ 0).
          action_any (λ _. []) (λ _ _. 0) (λ i h. absurd (omega arith)) (λ i h. news_past i (omega arith))
          ∙ ap (λ (k : ℕ). commit_action base s (tables_of mp pl nu us) view head (record { blocks = blocks; data_sectors = k; content = λ _. []; entry = λ _ _. 0 })) z
          ∙ ap (commit_action base s (tables_of mp pl nu us) view head) (sym (cond_true (is_zero count) (drop_change blocks) (write_change blocks bytes) (eq-eqb count 0 z))))
          (λ (z : count ≡ length blocks).
          let low = p.low in
          action_any (λ i. stored (sector_at bytes i)) (λ i place. entry_for (sector_at bytes i) place) (λ i h. refl) (λ i h. news_here i (omega arith))
          ∙ ap (λ (k : ℕ). commit_action base s (tables_of mp pl nu us) view head (record { blocks = blocks; data_sectors = k; content = λ i. stored (sector_at bytes i); entry = λ i place. entry_for (sector_at bytes i) place })) z
          ∙ ap (commit_action base s (tables_of mp pl nu us) view head) (sym (cond_false (is_zero count) (drop_change blocks) (write_change blocks bytes) (ne_eqb count 0 (λ (y : count ≡ 0). omega arith)))))
          how

      -- The bill of the stores that are made is the plan's.
      module _ (m : Memory) where
        abbrev carried : Action
        carried = plan_action s (tables_of mp pl nu us) (plan_of (take first bs) written members count ts skipped) (change_with blocks bytes news count)

        stores_counted : length carried.stores ≡ count + members
        unfolding plan_action commit_stores
        stores_counted =
            let plan = plan_of (take first bs) written members count ts skipped in
            let change = change_with blocks bytes news count in
            let datas = data_store plan change in
            let maps = member_store s (tables_of mp pl nu us) plan change in
            length-append (stores_below always datas count) (stores_below (flagged written) maps (pieces_for s.geometry.l))
            ∙ ap₂ (λ (x y : ℕ). x + y) (below_length always datas count ∙ count_always count) (below_length (flagged written) maps (pieces_for s.geometry.l) ∙ sym members_counted)

        bill_kept : performed allowance carried m ≡ performed allowance (plan_action s (tables_of mp pl nu us) billed (change_with blocks bytes news count)) m
        unfolding plan_action commit_stores data_store member_store member member_place rank committed_tables changed_entries
        bill_kept =
            let made-are = made (length carried.stores) allowance in
            performed_cost allowance carried (bill billed) m
            (ap (λ (x : ℕ). record { stores = made-are; skipped = x })
            (g.skipped_are ∙ ap (λ (k : ℕ). the_plan.skipped (made k allowance)) (sym stores_counted)))

        pub commit_done : performed allowance carried m ≡ performed allowance (commit_action base s (tables_of mp pl nu us) view head (change_by blocks bytes count)) m
        commit_done = bill_kept ∙ ap (λ (x : Action). performed allowance x m) commit_action_lem
