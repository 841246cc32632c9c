-- What the commands of a text have where they stand, line by line, on which lines they stand, and how many they are.
use Rattle.std.proofs.Common.{◌≡◌, ◌⊎◌, inl, inr, ℕ, ◌+◌, ◌<◌, ◌≤◌, ◌^◌, Bool, true, false, nat_lt, List, [], ◌∷◌, ◌++◌, length, Option, Some, None, Result, Ok, Err, refl, sym, ap, ◌∙◌, subst, arith, append_assoc, length-append}
use Rattle.std.specs.Prelude.{if◌then◌else◌}
use Rattle.std.specs.List.{All}
use Rattle.std.specs.Map.{values_of}
use Rattle.std.proofs.lemmas.List.{append-nil}
use Rattle.std.proofs.lemmas.List.Splits.{length-slice_split}
use Rattle.std.proofs.lemmas.List.Sums.{count_by-le-length}
use Rattle.std.proofs.lemmas.Bool.{lt-ltb, ltb-true}
use Rattle.std.proofs.lemmas.Map.Views.{All-values-insert_entry}
use Rattle.annex_base.specs.ByteOrder.{text_cmp}
use Rattle.annex_base.specs.Lines.{IsOneLine, is_newline}
use Rattle.annex_base.specs.Lists.{Each}
use Rattle.annex_base.specs.ResultSteps.{◌>>=◌}
use Rattle.annex_base.proofs.Conditions.{if_is}
use Rattle.annex_base.proofs.Lines.{one_line-split}
use Rattle.annex_base.proofs.Lists.{Each-push}
use Rattle.annex_base.proofs.Results.{bind_ok, ok_is}
use Rattle.annex_key.specs.KeyText.{IsKeyText}
use Rattle.annex_key.specs.Tree.{Entries, with_key}
use Rattle.key_verify.specs.Matching.{MatchesKey}
use Rattle.script_words.specs.Places.{Cursor}
use Rattle.script_commands.specs.declared.command.Action.TheVariants as actions
use Rattle.script_commands.specs.declared.command.Agendum.{Agendum}
use Rattle.script_commands.specs.declared.command.Command.{Command}
use Rattle.script_commands.specs.declared.command.Command.TheVariants as commands
use Rattle.script_forms.specs.declared.fault.LineFault.{LineFault}
use Rattle.script_forms.specs.declared.fault.LineFault.TheVariants.{Wrong, Past, NoMemory}
use Rattle.script_forms.specs.declared.fault.Quantity.{Quantity}
use Rattle.script_lang.specs.declared.state.Block.{Block}
use Rattle.script_forms.specs.declared.verb.Verb.{Verb}
use Rattle.script_forms.specs.declared.verb.Verb.TheVariants as verbs
use Rattle.script_forms.specs.declared.verb.LineVerb.{LineVerb}
use Rattle.script_forms.specs.declared.verb.LineVerb.TheVariants.{Par, End, Says}
use Rattle.script_forms.specs.Changes.{change_of, tree_by}
use Rattle.script_forms.specs.Context.{Context}
use Rattle.script_forms.specs.Forms.{row, block_row, line_named}
use Rattle.script_forms.specs.Limits.{first_limit}
use Rattle.script_lang.specs.Numbering.{begun_by, numbers_by, numbers_from, numbers_then, line_numbers}
use Rattle.script_lang.specs.Script
use Rattle.script_lang.specs.Script.{State, Reading, Commands, context_with, no_context, no_lines}
use Rattle.script_lang.specs.Preconditions.{AllStand, IsValidIn, StandsInBlock}
use Rattle.script_forms.specs.Steps
use Rattle.script_forms.specs.Verify.{is_content_of, made_key}
use Rattle.script_lang.proofs.KeyLemmas.{KeysAreTexts, HasKeys}
use Rattle.script_lang.proofs.StepLemmas.{saying_gives}
use Rattle.script_lang.proofs.StandingForms.{block_says, row_says}

-- ---- what one line adds

-- one command, which stands there and passes no limit
pub record Adds (old new : State) : Type 0 where
  pub command : Command
  pub commands_are : new.commands ≡ old.commands ++ command ∷ []
  pub context_is : new.context ≡ context_with old.context command
  pub block_is : new.block ≡ None
  pub stands : IsValidIn old.context command
  pub passes : first_limit old.context command ≡ None

-- the lines of an open block stand there
abbrev pub BlockStands : Context → Option Block → Type 0
BlockStands context None = Unit {0}
BlockStands context (Some block) = Each (StandsInBlock context) block.lines

-- no command, but maybe a line of a block
pub record Stays (old new : State) : Type 0 where
  pub commands_are : new.commands ≡ old.commands
  pub context_is : new.context ≡ old.context
  pub block : BlockStands old.context new.block

command_adds : (context : Context) (before : List Command) (block : Option Block) (c : Command) (new : State) → IsValidIn context c → Script.with_command context before c ≡ Ok new
    → Adds (record { context = context; commands = before; block = block }) new
unfolding Script.with_command
command_adds context before block c new stands e = from (first_limit context c) refl e
  where
    from : (o : Option Quantity) → first_limit context c ≡ o → Script.command_unless context before c o ≡ Ok new → Adds (record { context = context; commands = before; block = block }) new
    from (Some quantity) is e = absurd cc
    from None is e =
        let same = ok_is LineFault (record { context = context_with context c; commands = before ++ c ∷ []; block = None }) new e in
        subst (λ (s : State). Adds (record { context = context; commands = before; block = block }) s) same
        (record { command = c; commands_are = refl; context_is = refl; block_is = refl; stands = stands; passes = is })

module _ (law : KeysAreTexts) (matches : (key content : List ℕ) → is_content_of key content ≡ true → MatchesKey key content) where
  outside_adds : (context : Context) (before : List Command) (number : ℕ) (v : LineVerb) (at : Cursor) (new : State) → HasKeys context → IsOneLine at.line
      → Script.line_outside context before number v at ≡ Ok new → let old : State = record { context = context; commands = before; block = None } in Adds old new ⊎ Stays old new
  unfolding Script.line_outside
  outside_adds context before number Par at new keys one e =
      let b = bind_ok (Steps.end_at at) (λ u. Ok (Script.within_block context before number [])) new e in
      let same = ok_is LineFault (Script.within_block context before number []) new b.2 in
      inr (subst (λ (s : State). Stays (record { context = context; commands = before; block = None }) s) same (record { commands_are = refl; context_is = refl; block = tt }))
  outside_adds context before number End at new keys one e = absurd cc
  outside_adds context before number (Says v) at new keys one e =
      let b = bind_ok ((row v).1 context at) (Script.with_command context before) new e in
      inl (command_adds context before None b.0 new ((row_says law matches context keys v).given at b.0 one b.1) b.2)

  block_line : (context : Context) (before : List Command) (block : Block) (v : _) (at : Cursor) (new : State) → HasKeys context → IsOneLine at.line → Each (StandsInBlock context) block.lines
      → Script.line_inside context before block (Says (verbs.InBlock v)) at ≡ Ok new → Stays (record { context = context; commands = before; block = Some block }) new
  unfolding Script.line_inside
  block_line context before block v at new keys one all e =
      let b = bind_ok ((block_row v).1 context at) (λ l. Ok (Script.within_block context before block.number (block.lines ++ l ∷ []))) new e in
      let same = ok_is LineFault (Script.within_block context before block.number (block.lines ++ b.0 ∷ [])) new b.2 in
      subst (λ (s : State). Stays (record { context = context; commands = before; block = Some block }) s) same
      (record { commands_are = refl; context_is = refl; block = Each-push (StandsInBlock context) block.lines b.0 all ((block_says law matches context keys v).given at b.0 one b.1) })

  inside_adds : (context : Context) (before : List Command) (block : Block) (v : LineVerb) (at : Cursor) (new : State) → HasKeys context → IsOneLine at.line → Each (StandsInBlock context) block.lines
      → Script.line_inside context before block v at ≡ Ok new → let old : State = record { context = context; commands = before; block = Some block } in Adds old new ⊎ Stays old new
  unfolding Script.line_inside
  inside_adds context before block End at new keys one all e =
      let b = bind_ok (Steps.end_at at) (λ u. Script.with_command context before (commands.Par block.lines)) new e in
      inl (command_adds context before (Some block) (commands.Par block.lines) new all b.2)
  inside_adds context before block (Says (verbs.InBlock v)) at new keys one all e = inr (block_line context before block v at new keys one all e)
  inside_adds context before block v at new keys one all e = absurd cc

  by_adds : (context : Context) (before : List Command) (block : Option Block) (number : ℕ) (v : LineVerb) (at : Cursor) (new : State) → HasKeys context → IsOneLine at.line → BlockStands context block
      → Script.line_by context before block number v at ≡ Ok new → let old : State = record { context = context; commands = before; block = block } in Adds old new ⊎ Stays old new
  by_adds context before None number v at new keys one all e = outside_adds context before number v at new keys one e
  by_adds context before (Some block) number v at new keys one all e = inside_adds context before block v at new keys one all e

  words_adds : (old new : State) (number : ℕ) (line : List ℕ) → HasKeys old.context → BlockStands old.context old.block → IsOneLine line → Script.words_line old number line ≡ Ok new → Adds old new ⊎ Stays old new
  unfolding Script.words_line
  words_adds old new number line keys all one e =
      let at : Cursor = record { line = line; place = 0 } in
      let v = bind_ok (Script.line_verb_at at) (λ v. Script.line_by old.context old.commands old.block number v.0 v.1) new e in
      let stays = (saying_gives (λ v. Unit {0}) line_named (λ text v one e. tt) at v.0 one v.1).1 in
      by_adds old.context old.commands old.block number v.0.0 v.0.1 new keys (subst IsOneLine (sym stays) one) all v.2

  pub step_adds : (old new : State) (number : ℕ) (line : List ℕ) → HasKeys old.context → BlockStands old.context old.block → IsOneLine line → Script.line_step old number line ≡ Ok new → Adds old new ⊎ Stays old new
  unfolding Script.line_step
  step_adds old new number line keys all one e =
      elim (if_is (Script.is_skipped line) (Script.comment_at line >>= λ u. Ok old) (Script.words_line old number line) (Ok new) e) [
        | inl skipped ↦ let b = bind_ok (Script.comment_at line) (λ u. Ok old) new skipped.1 in
            inr (subst (λ (s : State). Stays old s) (ok_is LineFault old new b.2) (record { commands_are = refl; context_is = refl; block = all }))
        | inr words ↦ words_adds old new number line keys all one words.1
      ]

-- ---- all lines of a text

keys_with : (tree : Entries) (path key : List ℕ) → All IsKeyText (values_of tree) → IsKeyText key → All IsKeyText (values_of (with_key tree path key))
keys_with tree path key keys is = All-values-insert_entry text_cmp path key IsKeyText tree keys is

-- what the rest of all commands has, behind those so far
abbrev pub RestStands : State → List Command → Type 0
RestStands state all = (rest : List Command) × (all ≡ state.commands ++ rest) × AllStand state.context rest

module _ (law : KeysAreTexts) (matches : (key content : List ℕ) → is_content_of key content ≡ true → MatchesKey key content) (made : (path content : List ℕ) → length content < 2 ^ 64 → IsKeyText (made_key path content)) where
  tree_keys : (context : Context) (c : Command) → HasKeys context → IsValidIn context c → All IsKeyText (values_of (tree_by context.tree (change_of c)))
  tree_keys context (commands.Does (actions.Add r path key content)) keys stands =
      keys_with context.tree path key keys (subst IsKeyText (sym stands.2) (made path content (omega (arith, stands.3))))
  tree_keys context (commands.Does (actions.File path key)) keys stands = keys_with context.tree path key keys stands.1
  tree_keys context c keys stands = keys

  keys_stay : (context : Context) (c : Command) → HasKeys context → IsValidIn context c → HasKeys (context_with context c)
  keys_stay context c keys stands = tree_keys context c keys stands

  -- what the lines behind one line give is what they give with it
  added : (old new : State) (all : List Command) → Adds old new → RestStands new all → RestStands old all
  added old new all a rest = (
    a.command ∷ rest.0,
    rest.1 ∙ ap (λ cs. cs ++ rest.0) a.commands_are ∙ append_assoc old.commands (a.command ∷ []) rest.0,
    (a.stands, a.passes, subst (λ c. AllStand c rest.0) a.context_is rest.2),
  )

  stayed : (old new : State) (all : List Command) → Stays old new → RestStands new all → RestStands old all
  stayed old new all s rest = (rest.0, rest.1 ∙ ap (λ cs. cs ++ rest.0) s.commands_are, subst (λ c. AllStand c rest.0) s.context_is rest.2)

  -- a fact of lines goes on from behind a line to before it
  line_then : (N : State → Type 0) (R : Type 0) (old : State) (number : ℕ) (line : List ℕ) (others : State → Reading) (all : List Command) → HasKeys old.context → BlockStands old.context old.block → IsOneLine line
      → ((new : State) → HasKeys new.context → BlockStands new.context new.block → others new ≡ Commands all → N new)
      → ((new : State) → Script.line_step old number line ≡ Ok new → Adds old new → N new → R) → ((new : State) → Script.line_step old number line ≡ Ok new → Stays old new → N new → R)
      → Script.goes_on number (Script.line_step old number line) others ≡ Commands all → R
  line_then N R old number line others all keys block one next adds stays e = from (Script.line_step old number line) refl e
    where
      told : (fault : LineFault) → Script.fault_of number fault ≡ Commands all → ⊥
      told (Wrong byte) e = cc
      told (Past quantity) e = cc
      told NoMemory e = cc

      from : (r : Result State LineFault) → Script.line_step old number line ≡ r → Script.goes_on number r others ≡ Commands all → R
      from (Err fault) is e = absurd (told fault e)
      from (Ok new) is e = elim (step_adds law matches old new number line keys block one is) [
        | inl a ↦ adds new is a (next new (subst HasKeys (sym a.context_is) (keys_stay old.context a.command keys a.stands)) (subst (BlockStands new.context) (sym a.block_is) tt) e)
        | inr s ↦ stays new is s (next new (subst HasKeys (sym s.context_is) keys) (subst (λ c. BlockStands c new.block) (sym s.context_is) s.block) e)
      ]

  ended : (cs : List Command) (block : Option Block) (all : List Command) → Script.ended_by cs block ≡ Commands all → all ≡ cs
  ended cs None all e = cc
  ended cs (Some block) all e = absurd cc

  lines_stand : (state : State) (number : ℕ) (lines : List (List ℕ)) (all : List Command) → HasKeys state.context → BlockStands state.context state.block → Each IsOneLine lines
      → Script.lines_reading state number lines ≡ Commands all → RestStands state all
  lines_stand state number [] all keys block one e = ([], ended state.commands state.block all e ∙ sym (append-nil state.commands), tt)
  lines_stand state number (line ∷ lines) all keys block one e =
      line_then (λ s. RestStands s all) (RestStands state all) state number line (λ next. Script.lines_reading next (number + 1) lines) all keys block one.0
      (λ new keys' block' e'. lines_stand new (number + 1) lines all keys' block' one.1 e')
      (λ new is a. added state new all a) (λ new is s. stayed state new all s) e

  no_keys : HasKeys no_context
  no_keys = λ k d within. absurd (omega (arith, within))

  pub text_stands : (text : List ℕ) (all : List Command) → Script.reading text ≡ Commands all → AllStand no_context all
  unfolding Script.reading
  text_stands text all e =
      let rest = lines_stand no_lines 1 (Script.lines_of text) all no_keys tt (one_line-split text) e in
      subst (AllStand no_context) (sym rest.1) rest.2

  -- ---- on which lines they stand

  one_number : (old new : State) (number : ℕ) → length new.commands ≡ length old.commands + 1 → length (numbers_by old number new) + length old.commands ≡ length new.commands
  one_number old new number more = rw (lt-ltb (length old.commands) (length new.commands) (omega (arith, more))) (omega (arith, more))

  no_number : (old new : State) (number : ℕ) → length new.commands ≡ length old.commands → length (numbers_by old number new) + length old.commands ≡ length new.commands
  no_number old new number same = from (nat_lt (length old.commands) (length new.commands)) refl
    where
      from : (b : Bool) → nat_lt (length old.commands) (length new.commands) ≡ b → length (numbers_by old number new) + length old.commands ≡ length new.commands
      from true is = absurd (let less = ltb-true (length old.commands) (length new.commands) is in omega (arith, less, same))
      from false is = rw is (omega (arith, same))

  abbrev Counts : ℕ → List (List ℕ) → List Command → State → Type 0
  Counts number lines all state = length (numbers_from state number lines) + length state.commands ≡ length all

  counted : (old new : State) (number : ℕ) (line : List ℕ) (lines : List (List ℕ)) (all : List Command) → Script.line_step old number line ≡ Ok new
      → length (numbers_by old number new) + length old.commands ≡ length new.commands → Counts (number + 1) lines all new → Counts number (line ∷ lines) all old
  counted old new number line lines all is count rest =
      rw is (let both = length-append (numbers_by old number new) (numbers_from new (number + 1) lines) in omega (arith, both, count, rest))

  lines_count : (state : State) (number : ℕ) (lines : List (List ℕ)) (all : List Command) → HasKeys state.context → BlockStands state.context state.block → Each IsOneLine lines
      → Script.lines_reading state number lines ≡ Commands all → Counts number lines all state
  lines_count state number [] all keys block one e = let same = ap length (ended state.commands state.block all e) in omega (arith, same)
  lines_count state number (line ∷ lines) all keys block one e =
      line_then (Counts (number + 1) lines all) (Counts number (line ∷ lines) all state) state number line (λ next. Script.lines_reading next (number + 1) lines) all keys block one.0
      (λ new keys' block' e'. lines_count new (number + 1) lines all keys' block' one.1 e')
      (λ new is a. counted state new number line lines all is (one_number state new number (ap length a.commands_are ∙ length-append state.commands (a.command ∷ []))))
      (λ new is s. counted state new number line lines all is (no_number state new number (ap length s.commands_are))) e

  pub text_counts : (text : List ℕ) (all : List Command) → Script.reading text ≡ Commands all → length (line_numbers text) ≡ length all
  unfolding Script.reading line_numbers
  text_counts text all e = let count = lines_count no_lines 1 (Script.lines_of text) all no_keys tt (one_line-split text) e in omega (arith, count)

  -- ---- how many they are

  -- the commands so far, and one for each line at most
  abbrev FewBehind : List (List ℕ) → List Command → State → Type 0
  FewBehind lines all state = length all ≤ length state.commands + length lines

  lines_give_few : (state : State) (number : ℕ) (lines : List (List ℕ)) (all : List Command) → HasKeys state.context → BlockStands state.context state.block → Each IsOneLine lines
      → Script.lines_reading state number lines ≡ Commands all → FewBehind lines all state
  lines_give_few state number [] all keys block one e = let same = ap length (ended state.commands state.block all e) in omega (arith, same)
  lines_give_few state number (line ∷ lines) all keys block one e =
      line_then (FewBehind lines all) (FewBehind (line ∷ lines) all state) state number line (λ next. Script.lines_reading next (number + 1) lines) all keys block one.0
      (λ new keys' block' e'. lines_give_few new (number + 1) lines all keys' block' one.1 e')
      (λ new is a few. let more = ap length a.commands_are ∙ length-append state.commands (a.command ∷ []) in omega (arith, more, few))
      (λ new is s few. let same = ap length s.commands_are in omega (arith, same, few)) e

  pub few_commands : (text : List ℕ) (all : List Command) → Script.reading text ≡ Commands all → length all ≤ length text + 1
  unfolding Script.reading
  few_commands text all e =
      let few = lines_give_few no_lines 1 (Script.lines_of text) all no_keys tt (one_line-split text) e in
      let lines = length-slice_split is_newline text in
      let cuts = count_by-le-length is_newline text in
      omega (arith, few, lines, cuts)
