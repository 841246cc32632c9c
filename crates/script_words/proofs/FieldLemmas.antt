-- Words of levels, calls and options.
use Rattle.std.proofs.Common.{◌≡◌, ℕ, ◌<◌, ◌≤◌, ◌^◌, List, ◌++◌, Some, refl, sym, ap, subst, ◌∙◌, arith}
use Rattle.std.specs.Prelude.{codes, nat_le, bytes_eq}
use Rattle.std.specs.Fmt.{decimal}
use Rattle.std.proofs.lemmas.Bool.{leb-true, le-leb}
use Rattle.std.proofs.lemmas.Option.{cond_some}
use Rattle.annex_base.specs.declared.kinds.Call.{Call}
use Rattle.annex_base.specs.declared.kinds.Call.TheVariants as calls
use Rattle.annex_base.specs.declared.kinds.Level.{Level}
use Rattle.annex_base.specs.declared.kinds.Level.TheVariants as levels
use Rattle.annex_base.specs.OptionSteps.{◌>>=◌}
use Rattle.annex_base.proofs.Conditions.{bytes_eq-true}
use Rattle.annex_base.proofs.Lists.{find_member}
use Rattle.annex_base.proofs.Options.{bind_some}
use Rattle.script_words.specs.Marks.{behind_mark}
use Rattle.script_words.specs.Numbers.{number_up_to}
use Rattle.script_words.specs.Fields.{level_word, all_levels, level_of, call_word, all_calls, call_of, not_zero, version_of}
use Rattle.script_words.proofs.ContentLemmas.{mark_found, mark_written}
use Rattle.script_words.proofs.NumberLemmas.{number_read, number_written}

pub level_written : (word : List ℕ) (level : Level) → level_of word ≡ Some level → word ≡ level_word level
level_written word level e =
    sym (bytes_eq-true (level_word level) word (find_member (λ l. bytes_eq (level_word l) word) all_levels level e).1)

pub level_found : (level : Level) → level_of (level_word level) ≡ Some level
level_found levels.Trusted = refl
level_found levels.Semitrusted = refl
level_found levels.Untrusted = refl
level_found levels.Dead = refl

pub call_written : (word : List ℕ) (call : Call) → call_of word ≡ Some call → word ≡ call_word call
call_written word call e =
    sym (bytes_eq-true (call_word call) word (find_member (λ c. bytes_eq (call_word c) word) all_calls call e).1)

pub call_found : (call : Call) → call_of (call_word call) ≡ Some call
call_found calls.Has = refl
call_found calls.Size = refl
call_found calls.Read = refl
call_found calls.PartSize = refl
call_found calls.ReadPart = refl
call_found calls.Append = refl
call_found calls.Commit = refl
call_found calls.DropPart = refl
call_found calls.Remove = refl
call_found calls.Hold = refl
call_found calls.Unhold = refl
call_found calls.Holds = refl
call_found calls.PutFile = refl
call_found calls.File = refl

-- a number up to a bound behind a mark
pub marked_written : (mark word : List ℕ) (greatest n : ℕ) → (behind_mark mark word >>= number_up_to greatest) ≡ Some n → (word ≡ mark ++ decimal n) × (n ≤ greatest)
marked_written mark word greatest n e =
    let found = bind_some (behind_mark mark word) (number_up_to greatest) n e in
    let is = number_written greatest n found.0 found.2 in
    (mark_written mark word found.0 found.1 ∙ ap (λ l. mark ++ l) is.0, is.1)

pub marked_found : (mark : List ℕ) (greatest n : ℕ) → n ≤ greatest → greatest < 2 ^ 64 → (behind_mark mark (mark ++ decimal n) >>= number_up_to greatest) ≡ Some n
marked_found mark greatest n within small = rw (mark_found mark (decimal n)) (number_read greatest n within (omega (arith, within, small)))

pub version_written : (word : List ℕ) (version : ℕ) → version_of word ≡ Some version → (word ≡ codes "version=" ++ decimal version) × (1 ≤ version) × (version ≤ 3)
version_written word version e =
    let marked = bind_some (behind_mark (codes "version=") word) (λ v. number_up_to 3 v >>= not_zero) version e in
    let number = bind_some (number_up_to 3 marked.0) not_zero version marked.2 in
    let some = cond_some (nat_le 1 number.0) number.0 version number.2 in
    let is = number_written 3 number.0 marked.0 number.1 in (
      mark_written (codes "version=") word marked.0 marked.1 ∙ ap (λ l. codes "version=" ++ l) is.0 ∙ ap (λ v. codes "version=" ++ decimal v) some.1,
      subst (λ v. 1 ≤ v) some.1 (leb-true 1 number.0 some.0),
      subst (λ v. v ≤ 3) some.1 is.1,
    )

pub version_found : (version : ℕ) → 1 ≤ version → version ≤ 3 → version_of (codes "version=" ++ decimal version) ≡ Some version
version_found version some within =
    rw (mark_found (codes "version=") (decimal version), number_read 3 version within (omega (arith, within)), le-leb 1 version some) refl
