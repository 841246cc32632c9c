-- The text of a storm is a script of its commands.
use Rattle.std.proofs.Common.{◌≡◌, ℕ, true, false, List, [], ◌∷◌, length, Some, None, refl, sym, ap, ◌∙◌, arith, append-nil}
use Rattle.std.specs.Prelude.{cond, nat_lt, not}
use Rattle.std.specs.List.{list_all, position_or_len}
use Rattle.std.specs.Str.{is_utf8}
use Rattle.std.proofs.lemmas.Bool.{and_parts}
use Rattle.std.proofs.lemmas.Bool.Decides.{nat_tests}
use Rattle.std.proofs.lemmas.Str.{IsUtf8-from_ascii, is_utf8-from_IsUtf8}
use Rattle.script_commands.specs.declared.command.Command.{Command}
use Rattle.script_forms.specs.Context.{Context}
use Rattle.script_lang.specs.Script.{Commands, comment_at, line_step, lines_of, lines_reading, no_context, no_lines, reading}
use Rattle.driver_script.specs.Lines.{first_unbuilt, is_built}
use Rattle.driver_script.specs.Script.{IsScript}
use Rattle.storm_script.specs.Storm.{storm_text}
use Rattle.kept_copies.specs.Storms.{storm_commands}
use Rattle.storm_reading.proofs.Joining.{storm_led}
use Rattle.storm_reading.proofs.Leading.{state}
use Rattle.storm_reading.proofs.Naming.{SayingLaws}
use Rattle.storm_reading.proofs.Stepping.{WordLaws}

-- the text ends with a newline, and no line stands behind it
text_ends : (context : Context) (cs : List Command) (place : ℕ) → lines_reading (state context cs) place (lines_of []) ≡ Commands cs
unfolding line_step comment_at
text_ends context cs place =
    let empty : is_utf8 [] ≡ true = is_utf8-from_IsUtf8 [] (IsUtf8-from_ascii [] (λ i. omega arith)) in
    rw empty refl

abbrev first_place : List Command → ℕ
first_place cs = position_or_len (λ c. not (is_built c)) cs

none_found : (cs : List Command) → list_all is_built cs ≡ true → first_place cs ≡ length cs
none_found [] e = refl
none_found (c ∷ cs) e = let both = and_parts (is_built c) (list_all is_built cs) e in rw (both.0, none_found cs both.1) (omega arith)

all_built : (cs : List Command) → list_all is_built cs ≡ true → first_unbuilt cs ≡ None
all_built cs e =
    let far = none_found cs e in
    let outside : nat_lt (first_place cs) (length cs) ≡ false = grind (arith, nat_tests) in
    ap (λ b. cond b (Some (first_place cs)) None) outside

pub storm_is_script : WordLaws → SayingLaws → (number jobs : ℕ) → IsScript (storm_text number jobs) (storm_commands number jobs)
unfolding reading
storm_is_script words sayings number jobs =
    let led = storm_led words sayings number jobs in
    let arrives = led.goes no_context [] 1 [] (record { known = refl; only = refl; empty = refl }) in
    record {
      says = ap (λ (t : List ℕ). lines_reading no_lines 1 (lines_of t)) (sym (append-nil (storm_text number jobs))) ∙ arrives.same ∙ text_ends arrives.later (storm_commands number jobs) arrives.place;
      built = all_built (storm_commands number jobs) led.built;
    }
