-- What the steps that read keys, contents, log files, options and peers give.
use Rattle.std.proofs.Common.{◌≡◌, ◌⊎◌, inl, inr, ℕ, ◌<◌, ◌≤◌, Bool, true, false, ◌||◌, ◌==◌, not, nat_lt, nat_le, List, [], ◌∷◌, ◌++◌, length, Option, Some, None, Result, Ok, Err, refl, sym, ap, ◌∙◌, subst, true≢false, arith, IfSome}
use Rattle.std.specs.Prelude.{bytes_eq, codes, if◌then◌else◌, ◌≢◌}
use Rattle.std.specs.List.{All}
use Rattle.std.specs.Map.{values_of}
use Rattle.std.specs.BTreeMap.{is_at}
use Rattle.std.specs.Option.{option_map}
use Rattle.std.proofs.lemmas.Bool.{leb-true, or_cases, ltb-false}
use Rattle.std.proofs.lemmas.Map.Views.{IfSome-lookup_from_All}
use Rattle.annex_base.specs.Lines.{IsOneLine}
use Rattle.annex_base.specs.Lists.{Each}
use Rattle.annex_base.specs.ByteOrder.{text_cmp}
use Rattle.annex_base.specs.OptionSteps as options
use Rattle.annex_base.specs.ResultSteps.{◌>>=◌}
use Rattle.annex_base.proofs.Conditions.{if_is}
use Rattle.annex_base.proofs.Lists.{Each-member, find_member}
use Rattle.annex_base.proofs.Options.{bind_some, is_none_true, map_some, where_some}
use Rattle.annex_base.proofs.Results.{bind_ok, ok_is}
use Rattle.annex_key.specs.KeyText.{IsKeyText}
use Rattle.annex_key.specs.Tree.{Entries, key_of}
use Rattle.annex_key.specs.View.{first_fault}
use Rattle.log_lines.specs.Files.{kind_named, named_kinds, file_name}
use Rattle.log_lines.specs.declared.entry.LogKind.{LogKind}
use Rattle.log_lines.specs.declared.entry.LogKind.TheVariants as log_kinds
use Rattle.run_data.specs.declared.entry.LogFile.{LogFile}
use Rattle.run_data.specs.declared.entry.LogFile.TheVariants.{Location, Of, Other}
use Rattle.run_data.specs.declared.job.JobKind.{JobKind}
use Rattle.script_words.specs.Places.{Cursor}
use Rattle.script_words.specs.Marks.{behind_mark}
use Rattle.script_words.specs.Numbers.{number_up_to}
use Rattle.script_words.specs.Fields.{is_path, key_word, whole_key, path_word, is_key, offset_of, version_of, clock_of, not_zero, greatest_offset}
use Rattle.script_words.specs.Contents.{content_of}
use Rattle.script_words.specs.declared.key_word.KeyWord.{KeyWord}
use Rattle.script_words.specs.declared.key_word.KeyWord.TheVariants.{OfKey, OfPath}
use Rattle.script_commands.specs.declared.command.NamedKey.{NamedKey}
use Rattle.script_forms.specs.declared.fault.LineFault.{LineFault}
use Rattle.script_forms.specs.Context.{Context, is_placed}
use Rattle.script_lang.specs.Preconditions.{IsRepo, AreTwo, IsLineText, IsKnownKey, IsNamedKey, IsPath, IsNamedFile, IsLogFile, IsSmall}
use Rattle.script_forms.specs.Steps
use Rattle.script_forms.specs.Verify.{is_content_of}
use Rattle.script_lang.proofs.StepLemmas.{Gives, Always, saying_gives, option_gives, next_stays, holds_some, other_gives, number_bounded, path_some}

-- ---- keys

-- a text without a fault is that of a key
abbrev pub KeysAreTexts : Type 0
KeysAreTexts = (text : List ℕ) → first_fault text ≡ None → IsKeyText text

-- the keys of the tree are texts of keys
abbrev pub HasKeys : Context → Type 0
HasKeys context = All IsKeyText (values_of context.tree)

abbrev IsWord : KeyWord → Type 0
IsWord (OfKey key) = IsKeyText key
IsWord (OfPath path) = Unit {0}

module _ (law : KeysAreTexts) (context : Context) (keys : HasKeys context) where
  whole_is : (text : List ℕ) (w : KeyWord) → whole_key text ≡ Some w → IsWord w
  whole_is text w e =
      let h = where_some (is_key text) (Some (OfKey text)) w e in
      subst IsWord (some_is (OfKey text) w h.1) (law text (is_none_true (first_fault text) h.0))
    where
      some_is : (x y : KeyWord) → Some x ≡ Some y → x ≡ y
      some_is x y e = cc

  path_is : (text : List ℕ) (w : KeyWord) → path_word text ≡ Some w → IsWord w
  path_is text w e =
      let h = where_some (is_path text) (Some (OfPath text)) w e in
      subst IsWord (some_is (OfPath text) w h.1) tt
    where
      some_is : (x y : KeyWord) → Some x ≡ Some y → x ≡ y
      some_is x y e = cc

  word_is : (text : List ℕ) (w : KeyWord) → key_word text ≡ Some w → IsWord w
  unfolding key_word
  word_is [] w e = absurd cc
  word_is (b ∷ bytes) w e = elim (if_is (b == 64) (path_word bytes) (whole_key (b ∷ bytes)) (Some w) e) [
    | inl path ↦ path_is bytes w path.1
    | inr whole ↦ whole_is (b ∷ bytes) w whole.1
  ]

  found_key : (path key : List ℕ) → key_of context.tree path ≡ Some key → IsKeyText key
  found_key path key e = subst (λ o. IfSome o IsKeyText) e (IfSome-lookup_from_All IsKeyText (is_at (text_cmp path)) context.tree keys)

  named_is : (text : List ℕ) (k : NamedKey) → Steps.key_named context text ≡ Some k → IsNamedKey context k
  named_is text k e = from (key_word text) refl e
    where
      some_is : (x y : NamedKey) → Some x ≡ Some y → x ≡ y
      some_is x y e = cc

      from : (o : Option KeyWord) → key_word text ≡ o → Steps.key_by context o ≡ Some k → IsNamedKey context k
      from None is e = absurd cc
      from (Some (OfKey key)) is e =
          subst (IsNamedKey context) (some_is (record { key = key; path = None }) k e) (record { text = word_is text (OfKey key) is; named = tt })
      from (Some (OfPath path)) is e =
          let m = map_some (key_of context.tree path) (Steps.with_path path) k e in
          subst (IsNamedKey context) m.2 (record { text = found_key path m.0 m.1; named = m.1 })

  pub key_gives : Gives (IsNamedKey context) (Steps.key_at context)
  unfolding Steps.key_at
  key_gives = saying_gives (IsNamedKey context) (Steps.key_named context) (λ text k one e. named_is text k e)

  pub record IsPlacedKey (r : ℕ) (k : NamedKey) : Type 0 where
    pub named : IsNamedKey context k
    pub placed : is_placed context r k.key ≡ true

  placed_is : (r : ℕ) (text : List ℕ) (k : NamedKey) → Steps.if_placed context r (Steps.key_named context text) ≡ Some k → IsPlacedKey r k
  placed_is r text k e = from (Steps.key_named context text) refl e
    where
      from : (o : Option NamedKey) → Steps.key_named context text ≡ o → Steps.if_placed context r o ≡ Some k → IsPlacedKey r k
      from None is e = absurd cc
      from (Some j) is e =
          let h = holds_some (is_placed context r j.key) j k e in
          subst (IsPlacedKey r) h.1 (record { named = named_is text j is; placed = h.0 })

  pub placed_key_gives : (r : ℕ) → Gives (IsPlacedKey r) (Steps.placed_key_at context r)
  unfolding Steps.placed_key_at
  placed_key_gives r = saying_gives (IsPlacedKey r) (λ word. Steps.if_placed context r (Steps.key_named context word)) (λ text k one e. placed_is r text k e)

  -- ---- log files

  kind_is : (name : List ℕ) (kind : LogKind) → kind_named name ≡ Some kind → kind ≢ log_kinds.Location
  kind_is name kind e =
      let found = find_member (λ (k : LogKind). bytes_eq (file_name k) name) named_kinds kind e in
      Each-member (λ k. k ≢ log_kinds.Location) named_kinds kind ((λ e. cc), ((λ e. cc), ((λ e. cc), ((λ e. cc), ((λ e. cc), ((λ e. cc), ((λ e. cc), ((λ e. cc), ((λ e. cc), ((λ e. cc), tt)))))))))) found.0

  file_is : (name : List ℕ) (file : LogFile) → Steps.file_named name ≡ Some file → IsNamedFile file
  file_is name file e = let m = map_some (kind_named name) Of file e in subst IsNamedFile m.2 (kind_is name m.0 m.1)

  pub file_gives : Gives IsNamedFile Steps.file_at
  unfolding Steps.file_at
  file_gives = saying_gives IsNamedFile Steps.file_named (λ text file one e. file_is text file e)

  log_by_name : (file : LogFile) → IsNamedFile file → IsLogFile file
  log_by_name (Location key) is = absurd is
  log_by_name (Of kind) is = is
  log_by_name (Other name) is = is

  location_gives : Gives IsLogFile (Steps.location_at context)
  location_gives at x one e =
      let k = bind_ok (Steps.key_at context at) (λ k. Ok (Location k.0.key, k.1)) x e in
      let given = key_gives at k.0 one k.1 in
      let same = ok_is LineFault (Location k.0.0.key, k.0.1) x k.2 in
      (subst (λ (y : LogFile × Cursor). IsLogFile y.0) same given.0.text, ap (λ (y : LogFile × Cursor). y.1.line) (sym same) ∙ given.1)

  pub log_file_gives : Gives IsLogFile (Steps.log_file_at context)
  unfolding Steps.log_file_at
  log_file_gives at x one e = from (Steps.comes_next (codes "location") at) (next_stays (codes "location") at) e
    where
      from : (p : Bool × Cursor) → p.1.line ≡ at.line → Steps.log_file_by context p.0 p.1 ≡ Ok x → IsLogFile x.0 × (x.1.line ≡ at.line)
      from (false, after) stays e = let g = file_gives after x (subst IsOneLine (sym stays) one) e in (log_by_name x.0 g.0, g.1 ∙ stays)
      from (true, after) stays e = let g = location_gives after x (subst IsOneLine (sym stays) one) e in (g.0, g.1 ∙ stays)

-- ---- contents

pub content_gives : Gives (λ (c : List ℕ). Unit {0}) Steps.content_at
unfolding Steps.content_at
content_gives = saying_gives (λ c. Unit {0}) content_of (λ text c one e. tt)

abbrev pub MayBeContent : List ℕ → List ℕ → Type 0
MayBeContent key content = (Steps.is_large content || is_content_of key content) ≡ true

pub matching_gives : (key : List ℕ) → Gives (MayBeContent key) (Steps.matching_at key)
unfolding Steps.matching_at
matching_gives key = saying_gives (MayBeContent key) (λ word. Steps.if_matches key (content_of word)) (λ text c one e. from (content_of text) c e)
  where
    from : (o : Option (List ℕ)) (c : List ℕ) → Steps.if_matches key o ≡ Some c → MayBeContent key c
    from None c e = absurd cc
    from (Some d) c e = let h = holds_some (Steps.is_large d || is_content_of key d) d c e in subst (MayBeContent key) h.1 h.0

-- a content that isn't too large and may be the key's is the key's
pub content_is : (key content : List ℕ) → Steps.is_large content ≡ false → MayBeContent key content → is_content_of key content ≡ true
content_is key content small may = elim (or_cases (Steps.is_large content) (is_content_of key content) may) [
  | inl large ↦ absurd (true≢false (sym large ∙ small))
  | inr is ↦ is
]

pub small_is : (content : List ℕ) → Steps.is_large content ≡ false → IsSmall content
small_is content e = ltb-false Steps.most_content (length content) e

-- ---- options

mark_bounded : (greatest : ℕ) (mark word : List ℕ) (n : ℕ) → options.◌>>=◌ (behind_mark mark word) (number_up_to greatest) ≡ Some n → n ≤ greatest
mark_bounded greatest mark word n e = let b = bind_some (behind_mark mark word) (number_up_to greatest) n e in number_bounded greatest b.0 n b.2

abbrev IfBounded : ℕ → Option ℕ → Type 0
IfBounded greatest None = Unit {0}
IfBounded greatest (Some n) = n ≤ greatest

or_bounded : (greatest least : ℕ) (o : Option ℕ) → least ≤ greatest → IfBounded greatest o → Steps.or_else least o ≤ greatest
or_bounded greatest least None le is = le
or_bounded greatest least (Some n) le is = is

pub offset_gives : Always (λ n. n ≤ greatest_offset) Steps.offset_at
unfolding Steps.offset_at
offset_gives at =
    let g = option_gives (IfBounded greatest_offset) offset_of tt (λ text n e. mark_bounded greatest_offset (codes "offset=") text n e) at in
    (or_bounded greatest_offset 0 (Steps.option_at offset_of at).0 (omega arith) g.0, g.1)

pub clock_gives : Always (λ n. n ≤ greatest_offset) Steps.clock_at
unfolding Steps.clock_at
clock_gives at =
    let g = option_gives (IfBounded greatest_offset) clock_of tt (λ text n e. mark_bounded greatest_offset (codes "clock=") text n e) at in
    (or_bounded greatest_offset 0 (Steps.option_at clock_of at).0 (omega arith) g.0, g.1)

-- a version of the protocol
abbrev pub IsVersion : ℕ → Type 0
IsVersion n = (1 ≤ n) × (n ≤ 3)

abbrev IfVersion : Option ℕ → Type 0
IfVersion None = Unit {0}
IfVersion (Some n) = IsVersion n

or_newest : (o : Option ℕ) → IfVersion o → IsVersion (Steps.or_else 3 o)
or_newest None is = (omega arith, omega arith)
or_newest (Some n) is = is

version_bounded : (word : List ℕ) (n : ℕ) → version_of word ≡ Some n → IsVersion n
version_bounded word n e =
    let b = bind_some (behind_mark (codes "version=") word) (λ v. options.◌>>=◌ (number_up_to 3 v) not_zero) n e in
    let v = bind_some (number_up_to 3 b.0) not_zero n b.2 in
    let w = where_some (nat_le 1 v.0) (Some v.0) n v.2 in
    subst IsVersion (some_is v.0 n w.1) (leb-true 1 v.0 w.0, number_bounded 3 b.0 v.0 v.1)
  where
    some_is : (x y : ℕ) → Some x ≡ Some y → x ≡ y
    some_is x y e = cc

pub version_gives : Always IsVersion Steps.version_at
unfolding Steps.version_at
version_gives at =
    let g = option_gives IfVersion version_of tt (λ text n e. version_bounded text n e) at in
    (or_newest (Steps.option_at version_of at).0 g.0, g.1)

pub locks_gives : Always (λ (b : Bool). Unit {0}) Steps.locks_at
unfolding Steps.locks_at
locks_gives at = (tt, (option_gives (λ o. Unit {0}) Steps.nolock_of tt (λ text b e. tt) at).1)

pub turns_gives : Always (λ (n : ℕ). Unit {0}) Steps.turns_at
unfolding Steps.turns_at
turns_gives at = (tt, (option_gives (λ o. Unit {0}) Steps.turns_of tt (λ text n e. tt) at).1)

pub maybe_path_gives : Always (λ o. IfSome o IsPath) Steps.maybe_path_at
unfolding Steps.maybe_path_at
maybe_path_gives = option_gives (λ o. IfSome o IsPath) Steps.path_of tt (λ text x e. path_some text x e)

-- ---- peers

abbrev pub IsPeer : Context → ℕ → Option ℕ → Type 0
IsPeer context r peer = IfSome peer (λ p. AreTwo context r p)

pub from_gives : (context : Context) (r : ℕ) → IsRepo context r → Gives (IsPeer context r) (Steps.from_at context r)
unfolding Steps.from_at
from_gives context r known at x one e = go (Steps.comes_next (codes "from") at) (next_stays (codes "from") at) e
  where
    go : (p : Bool × Cursor) → p.1.line ≡ at.line → Steps.peer_by context r p.0 p.1 ≡ Ok x → IsPeer context r x.0 × (x.1.line ≡ at.line)
    go (false, after) stays e =
        let same = ok_is LineFault (None, after) x e in
        (subst (λ (y : Option ℕ × Cursor). IsPeer context r y.0) same tt, ap (λ (y : Option ℕ × Cursor). y.1.line) (sym same) ∙ stays)
    go (true, after) stays e =
        let p = bind_ok (Steps.other_at context r after) (λ p. Ok (Some p.0, p.1)) x e in
        let given = other_gives context r known after p.0 (subst IsOneLine (sym stays) one) p.1 in
        let same = ok_is LineFault (Some p.0.0, p.0.1) x p.2 in
        (subst (λ (y : Option ℕ × Cursor). IsPeer context r y.0) same given.0, ap (λ (y : Option ℕ × Cursor). y.1.line) (sym same) ∙ given.1 ∙ stays)

word_stays : (word : List ℕ) → Gives (λ (u : Unit {0}). Unit {0}) (Steps.saying_at (Steps.this_word word))
word_stays word = saying_gives (λ u. Unit {0}) (Steps.this_word word) (λ text u one e. tt)

pub to_gives : (context : Context) (r : ℕ) → IsRepo context r → Gives (AreTwo context r) (Steps.to_at context r)
unfolding Steps.to_at
to_gives context r known at x one e =
    let w = bind_ok (Steps.saying_at (Steps.this_word (codes "to")) at) (λ w. Steps.other_at context r w.1) x e in
    let stays = (word_stays (codes "to") at w.0 one w.1).1 in
    let given = other_gives context r known w.0.1 x (subst IsOneLine (sym stays) one) w.2 in
    (given.0, given.1 ∙ stays)

pub way_gives : Gives (λ (k : JobKind). Unit {0}) Steps.way_at
unfolding Steps.way_at
way_gives = saying_gives (λ k. Unit {0}) Steps.way_of (λ text k one e. tt)
