-- Texts of lines, and the commands that they say behind others.
use Rattle.std.proofs.Common.{◌≡◌, ℕ, zero, suc, ◌+◌, ◌*◌, ◌<◌, ◌≤◌, true, false, List, [], ◌∷◌, ◌++◌, map, Some, None, Ok, All, refl, sym, ap, subst, ◌∙◌, arith, append_assoc, append-nil}
use Rattle.std.specs.List.{flat_map, list_all, range_with_len}
use Rattle.std.proofs.lemmas.Bool.{not-true}
use Rattle.std.proofs.lemmas.List.Splits.{slice_split_at}
use Rattle.annex_base.specs.Lines.{is_newline, is_not_newline, newline}
use Rattle.annex_base.proofs.Lists.{All-from_Each, Each-from_list_all, Each-weaker, list_all_append}
use Rattle.driver_script.specs.Lines.{is_built}
use Rattle.script_commands.specs.declared.command.Command.{Command}
use Rattle.script_forms.specs.Changes.{Nothing, change_of, content_size, repos_by}
use Rattle.script_forms.specs.Context.{Context}
use Rattle.script_forms.specs.Forms.{line_named, row}
use Rattle.script_forms.specs.Limits.{first_limit, limit_passed}
use Rattle.script_forms.specs.declared.verb.LineVerb.TheVariants.{Says}
use Rattle.script_forms.specs.declared.verb.Verb.{Verb}
use Rattle.script_lang.specs.Script.{State, context_with, is_skipped, line_outside, line_step, line_verb_at, lines_of, lines_reading, with_command, words_line}
use Rattle.script_words.specs.Places.{Cursor}
use Rattle.script_words.specs.Words.{is_break}
use Rattle.storm_reading.proofs.Writing.{all_repos, is_plain}
use Rattle.storm_reading.proofs.Rows.{Before}
use Rattle.storm_reading.proofs.Stepping.{Reads, WordLaws, reads}

-- ---- one line

-- outside a block, behind these commands
abbrev pub state : Context → List Command → State
state context before = record { context = context; commands = before; block = None }

abbrev pub behind_command : Context → List Command → Command → State
behind_command context before c = state (context_with context c) (before ++ c ∷ [])

-- the eight repositories are declared, and there are at most so many contents of three bytes
pub record Holds (k : ℕ) (context : Context) : Type 0 where
  pub known : context.repos ≡ all_repos
  pub few : context.contents ≤ 3 * k

-- where P holds of the context the line says the command, for which no part is missing, and Q holds behind it
pub record Said (P Q : Context → Type 0) (line : List ℕ) (c : Command) : Type 0 where
  pub says : (context : Context) (before : List Command) (number : ℕ) → P context → line_step (state context before) number line ≡ Ok (behind_command context before c)
  pub holds : (context : Context) → P context → Q (context_with context c)
  pub one : list_all is_not_newline line ≡ true
  pub built : is_built c ≡ true

pub formed : (context : Context) (before : List Command) (number : ℕ) (line rest : List ℕ) (v : Verb) (c : Command) (r : Reads (line_verb_at (record { line = line; place = 0 })) (Says v) rest)
    → is_skipped line ≡ false → (row v).1 context r.after ≡ Ok c → first_limit context c ≡ None → line_step (state context before) number line ≡ Ok (behind_command context before c)
unfolding line_step words_line line_outside with_command
formed context before number line rest v c r skipped said limit = rw (skipped, r.gives, said, limit) refl

pub verb : WordLaws → (line word rest : List ℕ) (v : Verb) → line ≡ word ++ rest → is_plain word ≡ true → is_break rest ≡ true → line_named word ≡ Some (Says v)
    → Reads (line_verb_at (record { line = line; place = 0 })) (Says v) rest
verb laws line word rest v e p b n = reads laws line_named (record { line = line; place = 0 }) [] word rest (Says v) (record { goes_on = e; blank = refl; plain = p; ends = b }) n

still : (k : ℕ) (context : Context) (c : Command) → change_of c ≡ Nothing → Holds k context → Holds k (context_with context c)
still k context c e h =
    let size : content_size (change_of c) ≡ 0 = ap content_size e in
    let few = h.few in
    record {
      known = ap (λ ch. context.repos ++ repos_by ch) e ∙ append-nil context.repos ∙ h.known;
      few = omega (arith, size, few);
    }

-- a line that changes nothing for those behind it
pub calm : WordLaws → (k : ℕ) (line word rest : List ℕ) (v : Verb) (c : Command) → line ≡ word ++ rest → is_plain word ≡ true → is_break rest ≡ true → line_named word ≡ Some (Says v)
    → is_skipped line ≡ false → ((context : Context) (at : Cursor) → context.repos ≡ all_repos → Before at rest → (row v).1 context at ≡ Ok c) → change_of c ≡ Nothing
    → list_all is_not_newline line ≡ true → is_built c ≡ true → Said (Holds k) (Holds k) line c
calm laws k line word rest v c e p b n skipped said change one built =
    let r = verb laws line word rest v e p b n in
    record {
      says = λ context before number h. formed context before number line rest v c r skipped (said context r.after h.known r.behind) (ap (limit_passed context) change);
      holds = λ context h. still k context c change h;
      one = one;
      built = built;
    }

-- ---- several lines

-- where the lines of the text lead
pub record Arrives (Q : Context → Type 0) (text : List ℕ) (cs : List Command) (context : Context) (before : List Command) (number : ℕ) (rest : List ℕ) : Type 0 where
  pub later : Context
  pub place : ℕ
  pub holds : Q later
  pub same : lines_reading (state context before) number (lines_of (text ++ rest)) ≡ lines_reading (state later (before ++ cs)) place (lines_of rest)

-- where P holds of the context the lines of the text say these commands, for which no part is missing, and Q holds behind them
pub record Led (P Q : Context → Type 0) (text : List ℕ) (cs : List Command) : Type 0 where
  pub goes : (context : Context) (before : List Command) (number : ℕ) (rest : List ℕ) → P context → Arrives Q text cs context before number rest
  pub built : list_all is_built cs ≡ true

pub led_none : (P : Context → Type 0) → Led P P [] []
led_none P = record {
  goes = λ context before number rest h. record {
    later = context;
    place = number;
    holds = h;
    same = ap (λ cs. lines_reading (state context cs) number (lines_of rest)) (sym (append-nil before));
  };
  built = refl;
}

pub led_both : (P Q R : Context → Type 0) (text more : List ℕ) (cs ds : List Command) → Led P Q text cs → Led Q R more ds → Led P R (text ++ more) (cs ++ ds)
led_both P Q R text more cs ds one two = record {
  goes = λ context before number rest h.
      let a = one.goes context before number (more ++ rest) h in
      let b = two.goes a.later (before ++ cs) a.place rest a.holds in
      record {
        later = b.later;
        place = b.place;
        holds = b.holds;
        same = ap (λ t. lines_reading (state context before) number (lines_of t)) (append_assoc text more rest) ∙ a.same ∙ b.same
            ∙ ap (λ xs. lines_reading (state b.later xs) b.place (lines_of rest)) (append_assoc before cs ds);
      };
  built = list_all_append is_built cs ds one.built two.built;
}

-- from where more is known
pub led_from : (P Q R : Context → Type 0) (text : List ℕ) (cs : List Command) → ((context : Context) → P context → Q context) → Led Q R text cs → Led P R text cs
led_from P Q R text cs more led = record { goes = λ context before number rest h. led.goes context before number rest (more context h); built = led.built }

no_newlines : (line : List ℕ) → list_all is_not_newline line ≡ true → All (λ b. is_newline b ≡ false) line
no_newlines line one =
    All-from_Each (λ b. is_newline b ≡ false) line
    (Each-weaker (λ b. is_not_newline b ≡ true) (λ b. is_newline b ≡ false) (λ b h. not-true (is_newline b) h) line (Each-from_list_all is_not_newline line one))

first_line : (line rest : List ℕ) → list_all is_not_newline line ≡ true → lines_of ((line ++ newline ∷ []) ++ rest) ≡ line ∷ lines_of rest
first_line line rest one = ap lines_of (append_assoc line (newline ∷ []) rest) ∙ slice_split_at is_newline line newline rest (no_newlines line one) refl

-- the line alone, as this text
pub led_line : (P Q : Context → Type 0) (line text : List ℕ) (c : Command) → line ++ newline ∷ [] ≡ text → Said P Q line c → Led P Q text (c ∷ [])
led_line P Q line text c e said = subst (λ t. Led P Q t (c ∷ [])) e (record {
  goes = λ context before number rest h. record {
    later = context_with context c;
    place = number + 1;
    holds = said.holds context h;
    same = ap (lines_reading (state context before) number) (first_line line rest said.one) ∙ rw (said.says context before number h) refl;
  };
  built = rw (said.built) refl;
})

-- lines of numbers, one after the other
pub led_range : (P : ℕ → Context → Type 0) (text : ℕ → List ℕ) (command : ℕ → Command) (first end : ℕ)
    → ((a : ℕ) → first ≤ a → a < end → Led (P a) (P (a + 1)) (text a) (command a ∷ [])) → (n a : ℕ) → first ≤ a → a + n ≡ end
    → Led (P a) (P end) (flat_map text (range_with_len a n)) (map command (range_with_len a n))
led_range P text command first end each zero a low e =
    let same : a ≡ end = omega (arith, e) in
    subst (λ b. Led (P a) (P b) [] []) same (led_none (P a))
led_range P text command first end each (suc n) a low e =
    led_both (P a) (P (a + 1)) (P end) (text a) (flat_map text (range_with_len (a + 1) n)) (command a ∷ []) (map command (range_with_len (a + 1) n))
    (each a low (omega (arith, e))) (led_range P text command first end each n (a + 1) (omega (arith, low)) (omega (arith, e)))
