-- What the steps by which a line is read give, and that each of them stays on its line.
use Rattle.std.proofs.Common.{◌≡◌, ◌⊎◌, inl, inr, ℕ, zero, suc, ◌+◌, ◌<◌, ◌≤◌, Bool, true, false, ◌&&◌, ◌||◌, not, ◌==◌, nat_lt, nat_le, List, [], ◌∷◌, ◌++◌, length, take, drop, Option, Some, None, Result, Ok, Err, refl, sym, ap, ◌∙◌, subst, true≢false, arith, IfSome}
use Rattle.std.specs.Prelude.{bytes_eq, codes, is_none, is_some, if◌then◌else◌, ◌≢◌}
use Rattle.std.specs.List.{find, prefix_len}
use Rattle.std.specs.Option.{option_map}
use Rattle.std.specs.Str.{is_utf8}
use Rattle.std.specs.Map.{values_of}
use Rattle.std.specs.BTreeMap.{is_at}
use Rattle.std.specs.List.{All}
use Rattle.std.proofs.lemmas.Bool.{and_parts, eqb-false, leb-true, ltb-false, not-true}
use Rattle.std.proofs.lemmas.List.Quantifiers.{position-Some}
use Rattle.std.proofs.lemmas.Map.Views.{IfSome-lookup_from_All}
use Rattle.annex_base.specs.Lines.{IsOneLine}
use Rattle.annex_base.specs.Lists.{Each}
use Rattle.annex_base.specs.OptionSteps as options
use Rattle.annex_base.specs.ResultSteps.{◌>>=◌}
use Rattle.annex_base.specs.RepoText.{IsId, repo_of}
use Rattle.annex_base.specs.ByteOrder.{text_cmp}
use Rattle.annex_base.specs.declared.kinds.Level.{Level}
use Rattle.annex_base.specs.declared.kinds.Call.{Call}
use Rattle.annex_base.proofs.Conditions.{bytes_eq-refl, if_either, if_is}
use Rattle.annex_base.proofs.Lines.{one_line-drop, one_line-take, one_line-right}
use Rattle.annex_base.proofs.Lists.{Each-push, find_member, list_any_member}
use Rattle.annex_base.proofs.Options.{bind_some, map_some, where_some, unless_some}
use Rattle.annex_base.proofs.RepoLemmas.{repo_takes}
use Rattle.annex_base.proofs.Results.{bind_ok, ok_is}
use Rattle.annex_key.specs.KeyText.{IsKeyText}
use Rattle.annex_key.specs.Tree.{Entries, key_of}
use Rattle.annex_key.specs.View.{first_fault}
use Rattle.log_lines.specs.Files.{kind_named, named_kinds, file_name}
use Rattle.log_lines.specs.LineText.{is_group}
use Rattle.log_lines.specs.declared.entry.LogKind.{LogKind}
use Rattle.log_lines.specs.declared.entry.LogKind.TheVariants as log_kinds
use Rattle.log_lines.specs.declared.entry.Topic.TheVariants as topics
use Rattle.run_data.specs.declared.entry.LogFile.{LogFile}
use Rattle.run_data.specs.declared.entry.LogFile.TheVariants.{Location, Of, Other}
use Rattle.run_data.specs.declared.job.JobKind.{JobKind}
use Rattle.script_words.specs.Places.{Cursor, LineWord}
use Rattle.script_words.specs.Words.{next_word, rest_word, rest_from, word_from, quoted_word, plain_word, text_word, behind, quote, closes, is_not_quote, after_spaces}
use Rattle.annex_base.specs.Lines.{is_not_space, space}
use Rattle.script_words.specs.Numbers.{number_up_to, up_to}
use Rattle.script_words.specs.Fields.{is_name, is_path, key_word, whole_key, path_word, is_key, offset_of, version_of, clock_of, is_nolock, level_of, call_of}
use Rattle.script_words.specs.Contents.{content_of}
use Rattle.script_words.specs.declared.words.NextWord.{NextWord}
use Rattle.script_words.specs.declared.words.NextWord.TheVariants.{NoWord, BadWord, Word}
use Rattle.script_words.specs.declared.key_word.KeyWord.{KeyWord}
use Rattle.script_words.specs.declared.key_word.KeyWord.TheVariants.{OfKey, OfPath}
use Rattle.script_commands.specs.declared.command.NamedKey.{NamedKey}
use Rattle.script_forms.specs.declared.context.Repository.{Repository}
use Rattle.script_forms.specs.declared.fault.LineFault.{LineFault}
use Rattle.script_forms.specs.declared.fault.LineFault.TheVariants.{Wrong}
use Rattle.script_forms.specs.Context.{Context, number_of_repo, number_of_other, id_of_repo, unless, has_name, has_id, has_path, is_placed}
use Rattle.script_lang.specs.Preconditions.{IsRepo, IsTarget, AreTwo, IsLineText, IsKnownKey, IsNamedKey, IsGroup, IsPath, IsNamedFile, IsLogFile}
use Rattle.script_forms.specs.Steps
use Rattle.script_forms.specs.Verify.{is_content_of}

-- ---- words

-- what was found, if it is a word, is a text of a line
abbrev IsText : NextWord → Type 0
IsText NoWord = Unit {0}
IsText (BadWord at) = Unit {0}
IsText (Word w) = IsLineText w.text

text_found : (place : ℕ) (text : List ℕ) (after : ℕ) → IsOneLine text → IsText (text_word place text after)
text_found place text after one =
    if_either IsText (is_utf8 text) (Word (record { place = place; text = text; after = after })) (BadWord place) (λ yes. record { utf8 = yes; single = one }) (λ no. tt)

quoted_found : (place : ℕ) (bytes : List ℕ) → IsOneLine bytes → IsText (quoted_word place bytes)
unfolding quoted_word
quoted_found place bytes one =
    let n = prefix_len is_not_quote bytes in
    if_either IsText (closes (drop n bytes)) (text_word place (take n bytes) (place + n + 2)) (BadWord place)
    (λ yes. text_found place (take n bytes) (place + n + 2) (one_line-take n bytes one)) (λ no. tt)

plain_found : (place : ℕ) (bytes : List ℕ) → IsOneLine bytes → IsText (plain_word place bytes)
unfolding plain_word
plain_found place bytes one =
    let n = prefix_len is_not_space bytes in
    text_found place (take n bytes) (place + n) (one_line-take n bytes one)

found_from : (place : ℕ) (bytes : List ℕ) → IsOneLine bytes → IsText (word_from place bytes)
unfolding word_from
found_from place [] one = tt
found_from place (b ∷ bytes) one =
    if_either IsText (b == quote) (quoted_word place bytes) (plain_word place (b ∷ bytes))
    (λ yes. quoted_found place bytes (one_line-right (b ∷ []) bytes one)) (λ no. plain_found place (b ∷ bytes) one)

next_found : (line : List ℕ) (place : ℕ) → IsOneLine line → IsText (next_word line place)
unfolding next_word
next_found line place one = found_from (after_spaces line place) (drop (after_spaces line place) line) (one_line-drop (after_spaces line place) line one)

rest_found_from : (place : ℕ) (bytes : List ℕ) → IsOneLine bytes → IsText (rest_from place bytes)
unfolding rest_from
rest_found_from place [] one = tt
rest_found_from place (b ∷ bytes) one =
    if_either IsText (b == space) (text_word (place + 1) bytes (place + 1 + length bytes)) (BadWord place)
    (λ yes. text_found (place + 1) bytes (place + 1 + length bytes) (one_line-right (b ∷ []) bytes one)) (λ no. tt)

rest_found : (line : List ℕ) (place : ℕ) → IsOneLine line → IsText (rest_word line place)
unfolding rest_word
rest_found line place one = rest_found_from place (drop place line) (one_line-drop place line one)

-- ---- steps

-- what the step gives has this, and it stays on the line
abbrev pub Gives : {X : Type 0} → (X → Type 0) → Steps.Step X → Type 0
Gives {X} Q step = (at : Cursor) (x : X × Cursor) → IsOneLine at.line → step at ≡ Ok x → Q x.0 × (x.1.line ≡ at.line)

-- the same of a step that always gives something
abbrev pub Always : {X : Type 0} → (X → Type 0) → (Cursor → X × Cursor) → Type 0
Always Q step = (at : Cursor) → Q (step at).0 × ((step at).1.line ≡ at.line)

-- the same of a step that takes the rest of a line
abbrev pub Ends : {X : Type 0} → (X → Type 0) → (Cursor → Result X LineFault) → Type 0
Ends {X} Q step = (at : Cursor) (x : X) → IsOneLine at.line → step at ≡ Ok x → Q x

word_gives : Gives (λ w. IsLineText w.text) Steps.word_at
unfolding Steps.word_at
word_gives at x one e = from (next_word at.line at.place) (next_found at.line at.place one) e
  where
    from : (n : NextWord) → IsText n → Steps.word_in at n ≡ Ok x → IsLineText x.0.text × (x.1.line ≡ at.line)
    from NoWord t e = absurd cc
    from (BadWord b) t e = absurd cc
    from (Word w) t e =
        let same = ok_is LineFault (w, behind at (Word w)) x e in
        (subst (λ (y : LineWord × Cursor). IsLineText y.0.text) same t, ap (λ (y : LineWord × Cursor). y.1.line) (sym same))

pub wrong_ok : {A : Type 0} (byte : ℕ) (o : Option A) (x : A) → Steps.or_wrong byte o ≡ Ok x → o ≡ Some x
wrong_ok byte None x e = absurd cc
wrong_ok byte (Some y) x e = cc

pub saying_gives : {X : Type 0} (Q : X → Type 0) (says : List ℕ → Option X) → ((text : List ℕ) (x : X) → IsLineText text → says text ≡ Some x → Q x) → Gives Q (Steps.saying_at says)
saying_gives {X} Q says holds at y one e =
    let word = bind_ok (Steps.word_at at) (λ w. Steps.or_wrong w.0.place (says w.0.text) >>= λ x. Ok (x, w.1)) y e in
    let said = bind_ok (Steps.or_wrong word.0.0.place (says word.0.0.text)) (λ x. Ok (x, word.0.1)) y word.2 in
    let given = word_gives at word.0 one word.1 in
    let same = ok_is LineFault (said.0, word.0.1) y said.2 in (
      subst (λ (z : X × Cursor). Q z.0) same (holds word.0.0.text said.0 given.0 (wrong_ok word.0.0.place (says word.0.0.text) said.0 said.1)),
      ap (λ (z : X × Cursor). z.1.line) (sym same) ∙ given.1,
    )

-- ---- options

pub option_gives : {X : Type 0} (Q : Option X → Type 0) (says : List ℕ → Option X) → Q None → ((text : List ℕ) (x : X) → says text ≡ Some x → Q (Some x)) → Always Q (Steps.option_at says)
option_gives {X} Q says none some at = from (next_word at.line at.place)
  where
    taken : (w : LineWord) (o : Option X) → says w.text ≡ o → Q (Steps.taken_if at w o).0 × ((Steps.taken_if at w o).1.line ≡ at.line)
    taken w None e = (none, refl)
    taken w (Some x) e = (some w.text x e, refl)

    from : (n : NextWord) → Q (Steps.option_in says at n).0 × ((Steps.option_in says at n).1.line ≡ at.line)
    from NoWord = (none, refl)
    from (BadWord b) = (none, refl)
    from (Word w) = taken w (says w.text) refl

pub next_stays : (word : List ℕ) (at : Cursor) → (Steps.comes_next word at).1.line ≡ at.line
next_stays word at = (option_gives (λ o. Unit {0}) (Steps.this_word word) tt (λ text x e. tt) at).1

-- ---- single words

pub holds_some : {A : Type 0} (b : Bool) (x y : A) → Steps.if_holds b x ≡ Some y → (b ≡ true) × (x ≡ y)
holds_some {A} b x y e = let w = where_some b (Some x) y e in (w.0, some_is x y w.1)
  where
    some_is : (x y : A) → Some x ≡ Some y → x ≡ y
    some_is x y e = cc

some_repo : Repository
some_repo = record { name = []; id = []; offset = 0; version = 0; locks = false }

number_known : (context : Context) (name : List ℕ) (r : ℕ) → number_of_repo context.repos name ≡ Some r → IsRepo context r
number_known context name r e = (position-Some (λ d. bytes_eq d.name name) context.repos r some_repo e).0

pub repo_gives : (context : Context) → Gives (IsRepo context) (Steps.repo_at context)
unfolding Steps.repo_at
repo_gives context = saying_gives (IsRepo context) (number_of_repo context.repos) (λ text r one e. number_known context text r e)

-- the identifier of a repository of this name is that of one that is declared
id_known : (context : Context) (name id : List ℕ) → id_of_repo context.repos name ≡ Some id → has_id context.repos id ≡ true
id_known context name id e =
    let m = map_some (find (λ (d : Repository). bytes_eq d.name name) context.repos) (λ (d : Repository). d.id) id e in
    let f = find_member (λ (d : Repository). bytes_eq d.name name) context.repos m.0 m.1 in
    list_any_member (λ (d : Repository). bytes_eq d.id id) context.repos m.0 f.0 (ap (λ x. bytes_eq x id) m.2 ∙ bytes_eq-refl id)

pub target_gives : (context : Context) → Gives (IsTarget context) (Steps.target_at context)
unfolding Steps.target_at
target_gives context = saying_gives (IsTarget context) (λ name. option_map topics.Repo (id_of_repo context.repos name))
    (λ text t one e.
    let m = map_some (id_of_repo context.repos text) topics.Repo t e in
    subst (IsTarget context) m.2 (id_known context text m.0 m.1))

other_some : (r : ℕ) (o : Option ℕ) (p : ℕ) → unless r o ≡ Some p → (o ≡ Some p) × (r ≢ p)
other_some r None p e = absurd cc
other_some r (Some q) p e = let u = unless_some (r == q) (Some q) p e in (u.1, λ same. eqb-false r q u.0 (same ∙ sym (is q p u.1)))
  where
    is : (q p : ℕ) → Some q ≡ Some p → q ≡ p
    is q p e = cc

pub other_gives : (context : Context) (r : ℕ) → IsRepo context r → Gives (AreTwo context r) (Steps.other_at context r)
unfolding Steps.other_at
other_gives context r known = saying_gives (AreTwo context r) (number_of_other context.repos r)
    (λ text p one e. let o = other_some r (number_of_repo context.repos text) p e in
    record { first = known; second = number_known context text p o.0; distinct = o.1 })

pub record IsNewName (context : Context) (name : List ℕ) : Type 0 where
  pub good : is_name name ≡ true
  pub new : has_name context.repos name ≡ false

pub new_name_gives : (context : Context) → Gives (IsNewName context) (Steps.new_name_at context)
unfolding Steps.new_name_at
new_name_gives context = saying_gives (IsNewName context) (Steps.new_name context) holds
  where
    holds : (text x : List ℕ) → IsLineText text → Steps.new_name context text ≡ Some x → IsNewName context x
    holds text x one e =
        let h = holds_some (is_name text && not (has_name context.repos text)) text x e in
        let both = and_parts (is_name text) (not (has_name context.repos text)) h.0 in
        subst (IsNewName context) h.1 (record { good = both.0; new = not-true (has_name context.repos text) both.1 })

pub record IsNewId (context : Context) (id : List ℕ) : Type 0 where
  pub good : IsId id
  pub new : has_id context.repos id ≡ false

pub new_id_gives : (context : Context) → Gives (IsNewId context) (Steps.new_id_at context)
unfolding Steps.new_id_at
new_id_gives context = saying_gives (IsNewId context) (λ word. Steps.unless_known context (repo_of word)) (λ text x one e. holds text (repo_of text) refl x e)
  where
    holds : (text : List ℕ) (o : Option (List ℕ)) → repo_of text ≡ o → (x : List ℕ) → Steps.unless_known context o ≡ Some x → IsNewId context x
    holds text None is x e = absurd cc
    holds text (Some id) is x e =
        let h = holds_some (not (has_id context.repos id)) id x e in
        subst (IsNewId context) h.1 (record { good = (repo_takes text id is).0; new = not-true (has_id context.repos id) h.0 })

pub number_bounded : (greatest : ℕ) (word : List ℕ) (n : ℕ) → number_up_to greatest word ≡ Some n → n ≤ greatest
unfolding number_up_to
number_bounded greatest word n e =
    let m = bind_some _ (up_to greatest) n e in
    let w = holds_some (nat_le m.0 greatest) m.0 n m.2 in
    subst (λ k. k ≤ greatest) w.1 (leb-true m.0 greatest w.0)

pub number_gives : (greatest : ℕ) → Gives (λ n. n ≤ greatest) (Steps.number_at greatest)
unfolding Steps.number_at
number_gives greatest = saying_gives (λ n. n ≤ greatest) (number_up_to greatest) (λ text n one e. number_bounded greatest text n e)

pub level_gives : Gives (λ (l : Level). Unit {0}) Steps.level_at
unfolding Steps.level_at
level_gives = saying_gives (λ l. Unit {0}) level_of (λ text l one e. tt)

pub call_gives : Gives (λ (c : Call). Unit {0}) Steps.call_at
unfolding Steps.call_at
call_gives = saying_gives (λ c. Unit {0}) call_of (λ text c one e. tt)

pub path_some : (text x : List ℕ) → Steps.path_of text ≡ Some x → IsPath x
path_some text x e = let h = holds_some (is_path text) text x e in subst IsPath h.1 h.0

pub path_gives : Gives IsPath Steps.path_at
unfolding Steps.path_at
path_gives = saying_gives IsPath Steps.path_of (λ text x one e. path_some text x e)

pub tree_path_gives : (context : Context) → Gives (λ path. has_path context.tree path ≡ true) (Steps.tree_path_at context)
unfolding Steps.tree_path_at
tree_path_gives context = saying_gives (λ path. has_path context.tree path ≡ true) (λ word. Steps.if_holds (has_path context.tree word) word)
    (λ text x one e. let h = holds_some (has_path context.tree text) text x e in subst (λ path. has_path context.tree path ≡ true) h.1 h.0)

group_some : (text x : List ℕ) → Steps.group_of text ≡ Some x → IsGroup x
group_some text x e = let h = holds_some (is_group text) text x e in subst IsGroup h.1 h.0

pub group_gives : Gives IsGroup Steps.group_at
unfolding Steps.group_at
group_gives = saying_gives IsGroup Steps.group_of (λ text x one e. group_some text x e)

-- ---- the rest of a line

pub rest_ends : Ends IsLineText Steps.rest_at
unfolding Steps.rest_at
rest_ends at x one e = from (rest_word at.line at.place) (rest_found at.line at.place one) e
  where
    from : (n : NextWord) → IsText n → Steps.rest_in at n ≡ Ok x → IsLineText x
    from NoWord t e = absurd cc
    from (BadWord b) t e = absurd cc
    from (Word w) t e = subst IsLineText (ok_is LineFault w.text x e) t

pub record IsFullText (x : List ℕ) : Type 0 where
  pub text : IsLineText x
  pub full : x ≢ []

pub full_rest_ends : Ends IsFullText Steps.full_rest_at
unfolding Steps.full_rest_at
full_rest_ends at x one e =
    let r = bind_ok (Steps.rest_at at) (Steps.or_missing at) x e in
    from r.0 (rest_ends at r.0 one r.1) r.2
  where
    from : (t : List ℕ) → IsLineText t → Steps.or_missing at t ≡ Ok x → IsFullText x
    from [] t e = absurd cc
    from (b ∷ text) t e = let same = ok_is LineFault (b ∷ text) x e in subst IsFullText same (record { text = t; full = λ no. cc })

pub text_ends : Ends IsLineText Steps.text_at
unfolding Steps.text_at
text_ends at x one e = let s = bind_ok (Steps.short_at at) (λ u. Steps.rest_at at) x e in rest_ends at x one s.2

pub glob_ends : Ends IsLineText Steps.glob_at
unfolding Steps.glob_at
glob_ends at x one e = let s = bind_ok (Steps.short_at at) (λ u. Steps.full_rest_at at) x e in (full_rest_ends at x one s.2).text

group_by_ends : (n : ℕ) (groups : List (List ℕ)) → Each IsGroup groups → (at : Cursor) (x : List (List ℕ))
    → ((g : List ℕ) (after : Cursor) → Each IsGroup (groups ++ g ∷ []) → Steps.groups_in n (groups ++ g ∷ []) after ≡ Ok x → Each IsGroup x)
    → (w : NextWord) → Steps.group_by (Steps.groups_in n) groups at w ≡ Ok x → Each IsGroup x
group_by_ends n groups all at x others NoWord e = subst (λ gs. Each IsGroup gs) (ok_is LineFault groups x e) all
group_by_ends n groups all at x others (BadWord b) e = absurd cc
group_by_ends n groups all at x others (Word w) e =
    let g = bind_ok (Steps.or_wrong w.place (Steps.group_of w.text)) (λ g. Steps.groups_in n (groups ++ g ∷ []) (behind at (Word w))) x e in
    others g.0 (behind at (Word w)) (Each-push IsGroup groups g.0 all (group_some w.text g.0 (wrong_ok w.place (Steps.group_of w.text) g.0 g.1))) g.2

groups_in_ends : (n : ℕ) (groups : List (List ℕ)) → Each IsGroup groups → (at : Cursor) (x : List (List ℕ)) → Steps.groups_in n groups at ≡ Ok x → Each IsGroup x
groups_in_ends zero groups all at x e = subst (λ gs. Each IsGroup gs) (ok_is LineFault groups x e) all
groups_in_ends (suc n) groups all at x e =
    group_by_ends n groups all at x (λ g after more. groups_in_ends n (groups ++ g ∷ []) more after x) (next_word at.line at.place) e

pub groups_ends : Ends (λ gs. Each IsGroup gs) Steps.groups_at
unfolding Steps.groups_at
groups_ends at x one e =
    let s = bind_ok (Steps.short_at at) (λ u. Steps.groups_in (length at.line + 1) [] at) x e in
    groups_in_ends (length at.line + 1) [] tt at x s.2
