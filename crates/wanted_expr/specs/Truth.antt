-- Whether an expression holds (git-annex-preferred-content; where the project differs, its own rule is marked).
use Rattle.std.specs.Prelude.{ℕ, ◌+◌, ◌==◌, Bool, true, false, nat_le, nat_lt, ◌&&◌, ◌||◌, not, List, [], ◌∷◌, Option, Some, None, count_by, codes}
use Rattle.std.specs.List.{list_all, list_any}
use Rattle.std.specs.Str.{bytes_eq}
use Rattle.annex_base.specs.declared.kinds.Level.{Level}
use Rattle.annex_base.specs.declared.kinds.Level.TheVariants.{Dead, Untrusted, Semitrusted, Trusted}
use Rattle.glob_match.specs.declared.item.Item.{Item}
use Rattle.glob_match.specs.Numbers.{matches_path}
use Rattle.wanted_expr.specs.declared.data.Among.{Among}
use Rattle.wanted_expr.specs.declared.data.Among.TheVariants.{All, OfLevel, OfLevelOrMore, InGroup}
use Rattle.wanted_expr.specs.declared.data.Word.{Word}
use Rattle.wanted_expr.specs.declared.data.Word.TheVariants.{Anything, Nothing, Present, Include, Exclude, Copies, LackingCopies, InAllGroup, OnlyInGroup, InBackend, SecureHash, LargerThan, SmallerThan, Standard, GroupWanted}
use Rattle.wanted_expr.specs.declared.data.Claimant.{Claimant}
use Rattle.wanted_expr.specs.declared.data.Facts.{Facts}
use Rattle.wanted_expr.specs.Formula.{Formula, Atom, Negation, Conjunction, Disjunction}

-- levels from least to greatest
abbrev pub rank : Level → ℕ
rank Dead = 0
rank Untrusted = 1
rank Semitrusted = 2
rank Trusted = 3

-- a dead repository is in no count
abbrev pub is_alive : Claimant → Bool
is_alive c = nat_le 1 (rank c.level)

abbrev pub is_in_group : List ℕ → Claimant → Bool
is_in_group group c = list_any (bytes_eq group) c.groups

-- whether a claimed repository is one of those that are counted
abbrev pub is_among : Among → Claimant → Bool
is_among All c = true
is_among (OfLevel level) c = rank c.level == rank level
is_among (OfLevelOrMore level) c = nat_le (rank level) (rank c.level)
is_among (InGroup group) c = is_in_group group c

-- how many claimed repositories there are of a kind
abbrev pub copies_among : Among → Facts → ℕ
copies_among among f = count_by (λ c. is_alive c && is_among among c) f.claimed

-- a claimed repository that counts towards the number of copies
abbrev pub is_no_lack : Claimant → Bool
is_no_lack c = nat_le 2 (rank c.level)

abbrev pub is_claimed : Facts → List ℕ → Bool
is_claimed f repo = list_any (λ c. is_alive c && bytes_eq repo c.repo) f.claimed

-- a path that isn't UTF-8 matches no glob (own)
abbrev pub path_matches : List Item → Option (List ℕ) → Bool
path_matches glob None = false
path_matches glob (Some path) = matches_path glob path

abbrev pub secure_backends : List (List ℕ)
secure_backends = codes "SHA224" ∷ codes "SHA256" ∷ codes "SHA384" ∷ codes "SHA512" ∷ codes "SHA224E" ∷ codes "SHA256E" ∷ codes "SHA384E" ∷ codes "SHA512E" ∷ []

-- an unknown size is neither greater nor less (own)
abbrev pub size_passes : (ℕ → Bool) → Option ℕ → Bool
size_passes test None = false
size_passes test (Some size) = test size

-- a word, one line each
abbrev pub word_holds : Word → Facts → Bool
word_holds Anything f = true
word_holds Nothing f = false
word_holds Present f = f.present
word_holds (Include glob) f = path_matches glob f.path
word_holds (Exclude glob) f = not (path_matches glob f.path)
word_holds (Copies among least) f = nat_le least (copies_among among f)
word_holds (LackingCopies least) f = nat_le (least + count_by is_no_lack f.claimed) f.numcopies
word_holds (InAllGroup group) f = list_all (λ m. not (bytes_eq group m.group) || is_claimed f m.repo) f.members
word_holds (OnlyInGroup group) f = list_any is_alive f.claimed && list_all (λ c. not (is_alive c) || is_in_group group c) f.claimed
word_holds (InBackend backend) f = bytes_eq backend f.backend
word_holds SecureHash f = list_any (bytes_eq f.backend) secure_backends
word_holds (LargerThan limit) f = size_passes (nat_lt limit) f.size
word_holds (SmallerThan limit) f = size_passes (λ size. nat_lt size limit) f.size
word_holds Standard f = f.standard
word_holds GroupWanted f = f.groupwanted

-- an expression
abbrev pub holds : Formula → Facts → Bool
holds (Atom word) f = word_holds word f
holds (Negation a) f = not (holds a f)
holds (Conjunction a b) f = holds a f && holds b f
holds (Disjunction a b) f = holds a f || holds b f

-- whether `groupwanted` stands in an expression

abbrev pub is_groupwanted : Word → Bool
is_groupwanted GroupWanted = true
is_groupwanted w = false

abbrev pub has_groupwanted : Formula → Bool
has_groupwanted (Atom word) = is_groupwanted word
has_groupwanted (Negation a) = has_groupwanted a
has_groupwanted (Conjunction a b) = has_groupwanted a || has_groupwanted b
has_groupwanted (Disjunction a b) = has_groupwanted a || has_groupwanted b
