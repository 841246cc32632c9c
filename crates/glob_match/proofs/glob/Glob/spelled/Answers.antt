-- What the proof of `glob::Glob::spelled` needs beside the tactics.
use Rattle.std.proofs.Common.{sym, ◌∙◌}
use Rattle.std.specs.Str.{is_utf8}
use Rattle.std.proofs.lemmas.Bool.{false_from_ne_true}
use Rattle.std.proofs.lemmas.Str.{is_utf8-from_IsUtf8, IsUtf8-from_is_utf8}
use Rattle.glob_match.proofs.SpelledLemmas.{no_text_spells, open_memory, spells_glob, spells_none}
use Rattle.glob_match.proofs.glob.Glob.spelled.Goals as goal

pub returns-in_default : goal.returns-in_default
returns-in_default c = no_text_spells c.args.pattern.now (false_from_ne_true (is_utf8 c.args.pattern.now) (λ t. c.in_default.ensures.cases.0 (IsUtf8-from_is_utf8 c.args.pattern.now t)))

pub returns-in-Ok-parse : goal.returns-in-Ok-parse
returns-in-Ok-parse c = spells_glob c.in-Ok-parse.glob _ c.args.pattern.now c.in-Ok.ensures.cases.0 (is_utf8-from_IsUtf8 c.args.pattern.now c.in-Ok.ensures.cases.1) c.in-Ok-parse.ensures.found

pub returns-in-Err-OpenSet : goal.returns-in-Err-OpenSet
returns-in-Err-OpenSet c = spells_none _ c.args.pattern.now c.in-Ok.ensures.cases.0 (is_utf8-from_IsUtf8 c.args.pattern.now c.in-Ok.ensures.cases.1) (λ items is. open_memory _ (sym c.in-Err-OpenSet.field-0-is ∙ c.in-Err-OpenSet.ensures.only items is))
