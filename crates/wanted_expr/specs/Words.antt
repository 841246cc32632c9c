-- The words of an expression and how they are written, quotes taken off (git-annex-preferred-content).
use Rattle.std.specs.Prelude.{◌≡◌, ℕ, ◌*◌, ◌<◌, ◌≤◌, ◌^◌, ◌==◌, Bool, ◌||◌, if◌then◌else◌, IsTrue, ◌⊎◌, List, [], ◌∷◌, ◌++◌, length, codes, bytes_eq}
use Rattle.std.specs.Char.{is_ascii_digit}
use Rattle.std.specs.List.{list_all, list_any}
use Rattle.std.specs.Str.{chars, is_utf8}
use Rattle.std.specs.Str.Parse.{digits_value}
use Rattle.annex_base.specs.declared.kinds.Level.{Level}
use Rattle.annex_base.specs.declared.kinds.Level.TheVariants.{Dead, Untrusted, Semitrusted, Trusted}
use Rattle.glob_match.specs.declared.item.Item.{Item}
use Rattle.glob_match.specs.Glob.{IsGlob}
use Rattle.wanted_expr.specs.declared.data.Among.{Among}
use Rattle.wanted_expr.specs.declared.data.Among.TheVariants.{All, OfLevel, OfLevelOrMore, InGroup}
use Rattle.wanted_expr.specs.declared.data.Word.{Word}
use Rattle.wanted_expr.specs.declared.data.Word.TheVariants.{Anything, Nothing, Present, Include, Exclude, Copies, LackingCopies, InAllGroup, OnlyInGroup, InBackend, SecureHash, LargerThan, SmallerThan, Standard, GroupWanted}

-- digits, some
pub record IsDigits (text : List ℕ) : Type 0 where
  pub some : 0 < length text
  pub digits : IsTrue (list_all is_ascii_digit text)

-- a number of copies: 1 to 9 digits
pub record IsCount (text : List ℕ) (n : ℕ) : Type 0 where
  pub digits : IsDigits text
  pub short : length text ≤ 9
  pub value : n ≡ digits_value 10 text

-- the units of sizes, powers of 1,000
pub data SizeUnit : Type 0 where
  Bytes : SizeUnit
  Kilobytes : SizeUnit
  Megabytes : SizeUnit
  Gigabytes : SizeUnit

abbrev pub unit_text : SizeUnit → List ℕ
unit_text Bytes = []
unit_text Kilobytes = codes "kb"
unit_text Megabytes = codes "mb"
unit_text Gigabytes = codes "gb"

abbrev pub unit_size : SizeUnit → ℕ
unit_size Bytes = 1
unit_size Kilobytes = 1000
unit_size Megabytes = 1000000
unit_size Gigabytes = 1000000000

pub record IsSize (text : List ℕ) (n : ℕ) : Type 0 where
  pub number : List ℕ
  pub unit : SizeUnit
  pub digits : IsDigits number
  pub spelled : text ≡ number ++ unit_text unit
  pub value : n ≡ digits_value 10 number * unit_size unit
  pub fits : n < 2 ^ 64

-- the levels that may stand after `copies=`
abbrev pub IsLevel : List ℕ → Level → Type 0
IsLevel text Dead = ⊥
IsLevel text Untrusted = text ≡ codes "untrusted"
IsLevel text Semitrusted = text ≡ codes "semitrusted"
IsLevel text Trusted = text ≡ codes "trusted"

abbrev pub IsLevelOrMore : List ℕ → Level → Type 0
IsLevelOrMore text level = (name : List ℕ) × IsLevel name level × (text ≡ name ++ codes "+")

-- any other text that isn't empty is a group
abbrev pub IsAmong : List ℕ → Among → Type 0
IsAmong text All = ⊥
IsAmong text (OfLevel level) = IsLevel text level
IsAmong text (OfLevelOrMore level) = IsLevelOrMore text level
IsAmong text (InGroup group) = (text ≡ group) × (0 < length group) × ((level : Level) → (IsLevel text level → ⊥) × (IsLevelOrMore text level → ⊥))

-- what stands after `copies=`, cut at its last colon
abbrev pub IsCopies : List ℕ → Among → ℕ → Type 0
IsCopies text All n = IsCount text n
IsCopies text (OfLevel level) n = (kind digits : List ℕ) × IsAmong kind (OfLevel level) × IsCount digits n × (text ≡ kind ++ codes ":" ++ digits)
IsCopies text (OfLevelOrMore level) n = (kind digits : List ℕ) × IsAmong kind (OfLevelOrMore level) × IsCount digits n × (text ≡ kind ++ codes ":" ++ digits)
IsCopies text (InGroup group) n = (kind digits : List ℕ) × IsAmong kind (InGroup group) × IsCount digits n × (text ≡ kind ++ codes ":" ++ digits)

-- a value that isn't empty
abbrev pub IsText : List ℕ → List ℕ → Type 0
IsText value text = (value ≡ text) × (0 < length value)

-- a glob is text
abbrev pub IsGlobText : List ℕ → List Item → Type 0
IsGlobText value glob = (0 < length value) × IsTrue (is_utf8 value) × IsGlob glob (chars value)

-- the words without a value, one line each
abbrev pub IsBare : List ℕ → Word → Type 0
IsBare text Anything = text ≡ codes "anything"
IsBare text Nothing = text ≡ codes "nothing"
IsBare text Present = text ≡ codes "present"
IsBare text (Include glob) = ⊥
IsBare text (Exclude glob) = ⊥
IsBare text (Copies among n) = ⊥
IsBare text (LackingCopies n) = ⊥
IsBare text (InAllGroup group) = ⊥
IsBare text (OnlyInGroup group) = ⊥
IsBare text (InBackend backend) = ⊥
IsBare text SecureHash = text ≡ codes "securehash"
IsBare text (LargerThan n) = ⊥
IsBare text (SmallerThan n) = ⊥
IsBare text Standard = text ≡ codes "standard"
IsBare text GroupWanted = text ≡ codes "groupwanted"

-- the words `NAME=VALUE`, one line each
abbrev pub IsValued : List ℕ → List ℕ → Word → Type 0
IsValued name value Anything = ⊥
IsValued name value Nothing = ⊥
IsValued name value Present = ⊥
IsValued name value (Include glob) = (name ≡ codes "include") × IsGlobText value glob
IsValued name value (Exclude glob) = (name ≡ codes "exclude") × IsGlobText value glob
IsValued name value (Copies among n) = (name ≡ codes "copies") × IsCopies value among n
IsValued name value (LackingCopies n) = ((name ≡ codes "lackingcopies") ⊎ (name ≡ codes "approxlackingcopies")) × IsCount value n
IsValued name value (InAllGroup group) = (name ≡ codes "inallgroup") × IsText value group
IsValued name value (OnlyInGroup group) = (name ≡ codes "onlyingroup") × IsText value group
IsValued name value (InBackend backend) = (name ≡ codes "inbackend") × IsText value backend
IsValued name value SecureHash = ⊥
IsValued name value (LargerThan n) = (name ≡ codes "largerthan") × IsSize value n
IsValued name value (SmallerThan n) = (name ≡ codes "smallerthan") × IsSize value n
IsValued name value Standard = ⊥
IsValued name value GroupWanted = ⊥

unfoldable pub IsWord : List ℕ → Word → Type 0
IsWord text word = IsBare text word ⊎ ((name value : List ℕ) × (text ≡ name ++ codes "=" ++ value) × IsValued name value word)

-- The names of words, by which a fault is told.

abbrev pub bare_names : List (List ℕ)
bare_names = codes "anything" ∷ codes "nothing" ∷ codes "present" ∷ codes "securehash" ∷ codes "standard" ∷ codes "groupwanted" ∷ []

abbrev pub valued_names : List (List ℕ)
valued_names = codes "include" ∷ codes "exclude" ∷ codes "copies" ∷ codes "lackingcopies" ∷ codes "approxlackingcopies" ∷ codes "inallgroup" ∷ codes "onlyingroup" ∷ codes "inbackend" ∷ codes "largerthan" ∷ codes "smallerthan" ∷ []

unfoldable pub is_bare_name : List ℕ → Bool
is_bare_name name = list_any (bytes_eq name) bare_names

unfoldable pub is_valued_name : List ℕ → Bool
is_valued_name name = list_any (bytes_eq name) valued_names

-- what stands before the first `=`
abbrev pub name_of : List ℕ → List ℕ
name_of [] = []
name_of (b ∷ bs) = if b == 61 then [] else b ∷ name_of bs

unfoldable pub has_name : List ℕ → Bool
has_name text = is_bare_name (name_of text) || is_valued_name (name_of text)
