-- By what the text says.
use Rattle.std.proofs.Common.{◌≡◌, ◌⊎◌, inl, inr, ℕ, List, refl}
use Rattle.script_lang.specs.Laws.{HasCommands, HasBadLine, PassesLimit}
use Rattle.script_lang.specs.Script.{Reading, Commands, BadLine, PastLimit, reading}
use Rattle.script_lang.proofs.laws.each_text_says_one_thing.Goals as goal

what_is_said : (text : List ℕ) (says : Reading) → reading text ≡ says → HasCommands text ⊎ (HasBadLine text ⊎ PassesLimit text)
what_is_said text (Commands commands) is = inl (record { commands = commands; says = is })
what_is_said text (BadLine line byte) is = inr (inl (record { line = line; byte = byte; says = is }))
what_is_said text (PastLimit quantity) is = inr (inr (record { quantity = quantity; says = is }))

script_or_bad : (text : List ℕ) → HasCommands text → HasBadLine text → ⊥
script_or_bad text script bad = cc (script.says, bad.says)

script_or_past : (text : List ℕ) → HasCommands text → PassesLimit text → ⊥
script_or_past text script past = cc (script.says, past.says)

bad_or_past : (text : List ℕ) → HasBadLine text → PassesLimit text → ⊥
bad_or_past text bad past = cc (bad.says, past.says)

pub returns-clause-some : goal.returns-clause-some
returns-clause-some c = λ text. what_is_said text (reading text) refl

pub returns-clause-one : goal.returns-clause-one
returns-clause-one c = λ text. (script_or_bad text, script_or_past text, bad_or_past text)
