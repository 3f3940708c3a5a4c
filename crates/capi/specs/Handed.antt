-- What an exported call hands back and leaves, as one value to be equated with a definition.
use Rattle.std.specs.Prelude.{ℕ, List}
use Rattle.volume.specs.Tables.{Memory}
use Rattle.volume.specs.Store.{After}
use Rattle.volume.specs.Calls.{ReadAfter}
use Rattle.plain.specs.declared.CState.{CState}
use Rattle.batches.specs.Batch.{BatchAfter}
use Rattle.plain.specs.declared.CResult.{CResult}
use Rattle.plain.specs.declared.CBatchResult.{CBatchResult}
use Rattle.plain.specs.Plain.{result_of, batch_result_of}

pub record Handed : Type 0 where
  pub result : CResult
  pub memory : Memory

abbrev pub handed : CResult → Memory → Handed
handed result memory = record { result = result; memory = memory }

-- A call's definition, its outcome in numbers.
abbrev pub in_numbers : CState → After → Handed
in_numbers c a = handed (result_of c a.outcome) a.memory

-- Of a read: its 512 bytes too.
pub record ReadHanded : Type 0 where
  pub result : CResult
  pub memory : Memory
  pub out : List ℕ

abbrev pub read_handed : CResult → Memory → List ℕ → ReadHanded
read_handed result memory out = record { result = result; memory = memory; out = out }

abbrev pub read_in_numbers : CState → ReadAfter → ReadHanded
read_in_numbers c a = read_handed (result_of c a.outcome) a.memory a.out

-- Of a batch: the words of its answers too.
pub record BatchHanded : Type 0 where
  pub result : CBatchResult
  pub memory : Memory
  pub answers : List ℕ

abbrev pub batch_handed : CBatchResult → Memory → List ℕ → BatchHanded
batch_handed result memory answers = record { result = result; memory = memory; answers = answers }

abbrev pub batch_in_numbers : CState → BatchAfter → BatchHanded
batch_in_numbers c a = batch_handed (batch_result_of c a.outcome) a.memory a.answers
