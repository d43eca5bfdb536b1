-- The bytes of a text. Assumes nothing.
use Rattle.std.specs.Prelude.{ℕ, List}
use Rattle.report.specs.declared.text.Text.{Text}

abbrev pub text_of : Text → List ℕ
text_of t = t.text.bytes
