-- The key that is made of a content, and the extension that it keeps (git-annex backends; the extension's rule is own).
use Rattle.std.specs.Prelude.{ℕ, ◌+◌, Bool, List, [], ◌∷◌, ◌++◌, length, Option, Some, None, codes, nat_le, nat_lt, ◌==◌, ◌&&◌, if◌then◌else◌}
use Rattle.std.specs.Char.{is_ascii_alphanumeric}
use Rattle.std.specs.List.{after_last, list_all}
use Rattle.annex_base.specs.Lines.{slash}
use Rattle.hex.specs.Hex.{encode_lower}
use Rattle.sha2.specs.Sha256.{sha256}
use Rattle.annex_key.specs.KeyText.{KeyParts}

abbrev pub dot : ℕ
dot = 46

-- one to four ASCII letters or digits
abbrev pub is_extension : List ℕ → Bool
is_extension word = nat_le 1 (length word) && nat_le (length word) 4 && list_all is_ascii_alphanumeric word

-- the word after the last dot of a component, where the dot isn't its first byte
abbrev pub component_word : List ℕ → List ℕ → Option (List ℕ)
component_word component word = if is_extension word && nat_lt (length word + 1) (length component) then Some word else None

-- the extension of a path's last component
abbrev pub extension_word : List ℕ → Option (List ℕ)
extension_word path = let component = after_last (λ b. b == slash) path in component_word component (after_last (λ b. b == dot) component)

abbrev pub with_dot : Option (List ℕ) → List ℕ
with_dot None = []
with_dot (Some word) = dot ∷ word

-- an extension with its dot
abbrev pub extension_of : List ℕ → List ℕ
extension_of path = with_dot (extension_word path)

-- the SHA256E key of a content of this size and this SHA-256 digest
abbrev pub key_with : List ℕ → ℕ → List ℕ → KeyParts
key_with path size digest = record {
  backend = codes "SHA256E";
  size = Some size;
  mtime = None;
  chunk = None;
  name = encode_lower digest ++ extension_of path;
}

-- the SHA256E key of a content
abbrev pub made_key : List ℕ → List ℕ → KeyParts
made_key path bytes = key_with path (length bytes) (sha256 bytes)
