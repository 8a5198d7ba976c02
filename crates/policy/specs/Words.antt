-- What a word says.
use Rattle.std.specs.Prelude.{ℕ, List, take}
use Rattle.policy.specs.declared.words.Word.{Word}

-- The bytes of a word.
abbrev pub word_bytes : Word → List ℕ
word_bytes word = take word.len word.bytes
