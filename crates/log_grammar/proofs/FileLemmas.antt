-- The kind of a file's name.
use Rattle.std.proofs.Common.{◌≡◌, ◌≢◌, ◌↔◌, ℕ, List, [], ◌∷◌, Some, refl, sym, ap, ◌∙◌, bytes_eq}
use Rattle.std.proofs.lemmas.Slice.Eq.{bytes_eq-Decides}
use Rattle.std.proofs.lemmas.Option.{same_Some, none-some}
use Rattle.annex_base.proofs.Conditions.{by_test}
use Rattle.log_grammar.specs.declared.entry.LogKind.{LogKind}
use Rattle.log_grammar.specs.declared.entry.LogKind.TheVariants as kinds
use Rattle.log_grammar.specs.Files.{file_name, named_kinds, kind_among, kind_named}

has_name : (ks : List LogKind) (name : List ℕ) (kind : LogKind) → kind_among ks name ≡ Some kind → file_name kind ≡ name
has_name [] name kind e = absurd (none-some kind e)
has_name (k ∷ ks) name kind e =
    by_test (bytes_eq (file_name k) name)
    (λ t. ap file_name (sym (same_Some k kind (rw t at e))) ∙ (bytes_eq-Decides (file_name k) name).0 t)
    (λ t. has_name ks name kind (rw t at e))

not_location : (name : List ℕ) (kind : LogKind) → kind_named name ≡ Some kind → kind ≢ kinds.Location
not_location name kind e is = none-some kind (ap kind_named (ap file_name (sym is) ∙ has_name named_kinds name kind e) ∙ e)

own_kind : (kind : LogKind) → kind ≢ kinds.Location → kind_named (file_name kind) ≡ Some kind
own_kind kinds.Location other = absurd (other refl)
own_kind kinds.Trust other = refl
own_kind kinds.Uuid other = refl
own_kind kinds.Group other = refl
own_kind kinds.Preferred other = refl
own_kind kinds.Required other = refl
own_kind kinds.GroupPreferred other = refl
own_kind kinds.Numcopies other = refl
own_kind kinds.Mincopies other = refl
own_kind kinds.NumcopiesPath other = refl
own_kind kinds.MincopiesPath other = refl

pub kind_of_name : (name : List ℕ) (kind : LogKind) → (kind_named name ≡ Some kind) ↔ ((kind ≢ kinds.Location) × (file_name kind ≡ name))
kind_of_name name kind = (λ e. (not_location name kind e, has_name named_kinds name kind e), λ is. ap kind_named (sym is.1) ∙ own_kind kind is.0)
