-- What a caller may know of the tables before they are looked at: that refusal 5 does not apply.
use Rattle.std.specs.Prelude.{◌≡◌, Bool, true}
use Rattle.state.specs.declared.State.{State}
use Rattle.volume.specs.Tables.{Memory}
use Rattle.volume.specs.Calls.{tables_agree}

abbrev pub KnownAgreed : Bool → State → Memory → Type 0
KnownAgreed known s m = known ≡ true → tables_agree s m ≡ true
