-- The bytes of a content that is held as it was described, for private contracts.
use Rattle.std.specs.Prelude.{ℕ, List}
use Rattle.script_words.specs.declared.content.Form.{Form}
use Rattle.script_words.specs.declared.content.Form.TheVariants.{Bytes, Fill}
use Rattle.script_words.specs.Contents.{fill_bytes}

abbrev pub form_bytes : Form → List ℕ
form_bytes (Bytes bytes) = bytes
form_bytes (Fill size start) = fill_bytes size start
