-- A location log doesn't stand where another log has its name.
use Rattle.std.proofs.Common.{◌≡◌, ℕ, Bool, true, false, not, ◌&&◌, ◌==◌, List, [], ◌∷◌, ◌++◌, None, refl, sym, ap, ◌∙◌, true≢false, bytes_eq}
use Rattle.std.specs.List.{list_all}
use Rattle.std.specs.Option.{unwrap_or}
use Rattle.std.proofs.lemmas.List.Folds.{list_all-append}
use Rattle.std.proofs.lemmas.Slice.Eq.{bytes_eq-Decides}
use Rattle.std.proofs.lemmas.Bool.{false_from_ne_true}
use Rattle.log_lines.specs.declared.entry.LogKind.{LogKind}
use Rattle.log_lines.specs.declared.entry.LogKind.TheVariants as kinds
use Rattle.log_lines.specs.Files.{file_name, named_kinds, kind_among}
use Rattle.hash_dirs.specs.LogPath.{location_path}
use Rattle.trust_groups.specs.Reads.{kind_at}

not_slash : ℕ → Bool
not_slash b = not (b == 47)

has_slash : (xs ys : List ℕ) → list_all not_slash (xs ++ 47 ∷ ys) ≡ false
unfolding not_slash
has_slash xs ys = list_all-append not_slash xs (47 ∷ ys) ∙ and_false (list_all not_slash xs)
  where
    and_false : (b : Bool) → (b && false) ≡ false
    and_false true = refl
    and_false false = refl

has_slash-front : (xs ys zs : List ℕ) → list_all not_slash (xs ++ 47 ∷ ys ++ zs) ≡ false
has_slash-front xs ys zs = list_all-append not_slash (xs ++ 47 ∷ ys) zs ∙ ap (λ b. b && list_all not_slash zs) (has_slash xs ys)

location_has_slash : (key : List ℕ) → list_all not_slash (location_path key) ≡ false
location_has_slash key = has_slash-front _ _ _

name_has_no_slash : (kind : LogKind) → list_all not_slash (file_name kind) ≡ true
unfolding not_slash
name_has_no_slash kinds.Location = refl
name_has_no_slash kinds.Trust = refl
name_has_no_slash kinds.Uuid = refl
name_has_no_slash kinds.Group = refl
name_has_no_slash kinds.Preferred = refl
name_has_no_slash kinds.Required = refl
name_has_no_slash kinds.GroupPreferred = refl
name_has_no_slash kinds.Numcopies = refl
name_has_no_slash kinds.Mincopies = refl
name_has_no_slash kinds.NumcopiesPath = refl
name_has_no_slash kinds.MincopiesPath = refl

name_apart : (kind : LogKind) (key : List ℕ) → bytes_eq (file_name kind) (location_path key) ≡ false
name_apart kind key = false_from_ne_true (bytes_eq (file_name kind) (location_path key)) (λ t.
    true≢false (sym (name_has_no_slash kind) ∙ ap (list_all not_slash) ((bytes_eq-Decides (file_name kind) (location_path key)).0 t) ∙ location_has_slash key))

none_among : (ks : List LogKind) (key : List ℕ) → kind_among ks (location_path key) ≡ None
none_among [] key = refl
none_among (k ∷ ks) key = let no = name_apart k key in rw no (none_among ks key)

pub location_kind : (key : List ℕ) → kind_at (location_path key) ≡ kinds.Location
location_kind key = ap (λ o. unwrap_or o kinds.Location) (none_among named_kinds key)
