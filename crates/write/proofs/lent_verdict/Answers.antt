-- What is looked at is what is lent.
use mathlib.Core.Path.{sym, ◌∙◌, ap, subst}
use mathlib.Core.List.{List}
use Prim.Native.Nat.{ℕ}
use Rattle.volume.specs.Tables.{memory}
use Rattle.verdict.specs.Known.{KnownAgreed}
use Rattle.write.proofs.WriteLaws.{lent_judged}
use Rattle.write.proofs.lent_verdict.Goals as goal

pub commit_verdict-requires : goal.commit_verdict-requires
commit_verdict-requires c = record {
  count_in_bounds = c.requires.count_in_bounds;
  known_agreed = subst (KnownAgreed c.args.known c.args.s) (sym (ap (λ (xs : List ℕ). memory xs c.tables.result.map.now c.tables.result.places.now c.tables.result.numbers.now c.tables.result.used.now) c.image.ensures ∙ c.tables.ensures)) c.requires.known_agreed;
}

pub returns : goal.returns
returns c =
    lent_judged _ _ _ _ _ _ _ _ _ _ _ _ _ _ _ _ (ap (λ (xs : List ℕ). memory xs c.tables.result.map.now c.tables.result.places.now c.tables.result.numbers.now c.tables.result.used.now) c.image.ensures ∙ c.tables.ensures) c.commit_verdict.ensures
