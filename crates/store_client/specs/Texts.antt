-- What is printed of calls and outcomes.
use Rattle.std.specs.Prelude.{ℕ, List, ◌++◌, codes, decimal, Some, None, Ok, Err}
use Rattle.store.specs.Meaning.{number}
use Rattle.store_client.specs.declared.Call.{Call}
use Rattle.store_client.specs.declared.Call.TheVariants.{Search, Write, Erase}
use Rattle.store_client.specs.declared.Outcome.{Outcome}
use Rattle.store_client.specs.declared.Outcome.TheVariants.{Found, Changed}

abbrev pub call_text : Call → List ℕ
call_text (Search key) = codes "search for " ++ decimal key
call_text (Write row) = codes "write " ++ decimal row.result ++ codes " for " ++ decimal row.key
call_text (Erase key) = codes "erase " ++ decimal key

abbrev pub outcome_text : Outcome → List ℕ
outcome_text (Found (Some result)) = codes "found " ++ decimal result
outcome_text (Found None) = codes "found none"
outcome_text (Changed (Ok u)) = codes "done"
outcome_text (Changed (Err refusal)) = codes "refused with " ++ decimal (number refusal)
