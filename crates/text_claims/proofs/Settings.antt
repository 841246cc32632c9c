-- What a branch of one or two files sets, as git-annex has it or as worked out by hand (by computation). Each definition
-- is what all calls answer that read it: those over settings that are kept, and those that read one thing of a branch.
use Rattle.std.specs.Prelude.{refl, ℕ, List, [], ◌∷◌, ◌++◌, map, codes}
use Rattle.annex_base.specs.declared.kinds.Level.{Level}
use Rattle.annex_base.specs.declared.kinds.Level.TheVariants as levels
use Rattle.union_merge.specs.LineSet.{set_of}
use Rattle.union_merge.specs.Branch.{Files, lines_at, merged_file}
use Rattle.trust_groups.specs.Settings.{Lines, claims, description, group_preferred, groups, level, mincopies, numcopies, preferred, repos_in_groups, required}
use Rattle.text_claims.proofs.Cases.{Answers}
use Rattle.text_claims.proofs.Opened.{opened, repo}

-- a branch of one file
abbrev one_file : List ℕ → List ℕ → Files
one_file path text = merged_file [] path (set_of text)

abbrev lines_in : List ℕ → List ℕ → Lines
lines_in path text = lines_at (one_file path text)

-- ---- the repositories that are said to have the key of a location log, beside a log of trust. The first ten logs as
-- git-annex reads them; then ties, dead repositories and lines outside the grammar

abbrev claims_by : List ℕ × List ℕ → List (List ℕ)
claims_by c = claims (lines_at (merged_file (one_file (codes "975/c65/WORM-s3--abc.log") c.0) (codes "trust.log") (set_of c.1))) (codes "WORM-s3--abc")

abbrev claims_cases : List ((List ℕ × List ℕ) × List (List ℕ))
claims_cases =
    ((codes "1 1 22222222-2222-4222-8222-222222222222", []), repo 2 ∷ [])
    ∷ ((codes "9999999999.999999999s 1 22222222-2222-4222-8222-222222222222", []), repo 2 ∷ [])
    ∷ ((codes "1700000000.5.5s 1 22222222-2222-4222-8222-222222222222", []), [])
    ∷ ((codes "1700000000s 2 22222222-2222-4222-8222-222222222222", []), [])
    ∷ ((codes "hello", []), [])
    ∷ ((codes "1700000000s 1 22222222-2222-4222-8222-222222222222\n1700000000s 1 22222222-2222-4222-8222-222222222222", []), repo 2 ∷ [])
    ∷ ((codes "1700000000s 1 22222222-2222-4222-8222-222222222222\n1700000000.5s 0 22222222-2222-4222-8222-222222222222", []), [])
    ∷ ((codes "1700000000s 0 22222222-2222-4222-8222-222222222222\n1700000001s 1 22222222-2222-4222-8222-222222222222", []), repo 2 ∷ [])
    ∷ ((codes "1700000000s 0 22222222-2222-4222-8222-222222222222\n1700000000.0000000001s X 22222222-2222-4222-8222-222222222222", []), [])
    ∷ ((codes "1700000001s X 22222222-2222-4222-8222-222222222222\n1700000000s 0 22222222-2222-4222-8222-222222222222", []), [])
    ∷ (([], []), [])
    ∷ ((codes "1s 1 22222222-2222-4222-8222-222222222222\n1s 0 22222222-2222-4222-8222-222222222222", []), [])
    ∷ ((codes "1s 1 22222222-2222-4222-8222-222222222222\n1s X 22222222-2222-4222-8222-222222222222", []), [])
    ∷ ((codes "1s X 22222222-2222-4222-8222-222222222222\n2s 1 22222222-2222-4222-8222-222222222222", []), repo 2 ∷ [])
    ∷ ((codes "1s 1 33333333-3333-4333-8333-333333333333\n1s 1 22222222-2222-4222-8222-222222222222", []), repo 2 ∷ repo 3 ∷ [])
    ∷ ((codes "1700000001s 1 22222222-2222-4222-8222-222222222222\n1700000001s 0 22222222-2222-4222-8222-222222222222\n1700000002 1 33333333-3333-4333-8333-333333333333\nhello\n1700000003s 1 2c8f", []), repo 3 ∷ [])
    ∷ ((codes "1s 1 22222222-2222-4222-8222-222222222222\n1s 1 33333333-3333-4333-8333-333333333333", codes "22222222-2222-4222-8222-222222222222 X timestamp=1s"), repo 3 ∷ [])
    ∷ ((codes "1s 1 22222222-2222-4222-8222-222222222222\n1s 1 33333333-3333-4333-8333-333333333333", codes "22222222-2222-4222-8222-222222222222 X timestamp=1s\n22222222-2222-4222-8222-222222222222 0 timestamp=2s"), repo 2 ∷ repo 3 ∷ [])
    ∷ ((codes "1s 1 22222222-2222-4222-8222-222222222222\n1s 1 33333333-3333-4333-8333-333333333333", codes "22222222-2222-4222-8222-222222222222 X\n33333333-3333-4333-8333-333333333333 0"), repo 3 ∷ [])
    ∷ []

claims_are : Answers claims_by claims_cases
unfolding opened
claims_are = refl

-- the same of a key and the line of a file; files of a branch of git-annex, one for each backend
abbrev claimed_by : List ℕ × List ℕ × List ℕ → List (List ℕ)
claimed_by c = claims (lines_in c.0 c.1) c.2

abbrev claimed_cases : List ((List ℕ × List ℕ × List ℕ) × List (List ℕ))
claimed_cases =
    ((codes "035/67c/WORM-s176-m1600000021--f21.mp3.log", codes "1700000030.139997s 1 22222222-2222-4222-8222-222222222222", codes "WORM-s176-m1600000021--f21.mp3"), repo 2 ∷ [])
    ∷ ((codes "0d6/5cf/SHA512-s144--dea239cfb1e7155773d3cb3e86ac4eded29ad5506bb61ccefc114b0327f9eee4432eac3087e21a48381c0f77621b92114aa4275a3bf877df24c57d9205e50231.log", codes "1700000024.659998s 1 33333333-3333-4333-8333-333333333333", codes "SHA512-s144--dea239cfb1e7155773d3cb3e86ac4eded29ad5506bb61ccefc114b0327f9eee4432eac3087e21a48381c0f77621b92114aa4275a3bf877df24c57d9205e50231"), repo 3 ∷ [])
    ∷ ((codes "18d/e29/MD5E-s112--8aa585cc5ed86e37da330fe7e595d422.c.log", codes "1700000019.179998s 1 44444444-4444-4444-8444-444444444444", codes "MD5E-s112--8aa585cc5ed86e37da330fe7e595d422.c"), repo 4 ∷ [])
    ∷ ((codes "71a/483/SHA256E-s88--24c0908af34e5d99670b9dde4c616a6aa2320ad43d8ca0a550d9cd8933aacde4.txt.log", codes "1700000015.069999s 1 11111111-1111-4111-8111-111111111111", codes "SHA256E-s88--24c0908af34e5d99670b9dde4c616a6aa2320ad43d8ca0a550d9cd8933aacde4.txt"), repo 1 ∷ [])
    ∷ ((codes "981/0fb/SHA1-s120--1ce29e2b1767e041c5b0b19a2dc7e33e91ef9702.log", codes "1700000020.549998s 1 55555555-5555-4555-8555-555555555555", codes "SHA1-s120--1ce29e2b1767e041c5b0b19a2dc7e33e91ef9702"), repo 5 ∷ [])
    ∷ []

claimed : Answers claimed_by claimed_cases
unfolding opened
claimed = refl

-- ---- how far a repository is trusted. The first six logs as git-annex reads them; then ties, lines without a stamp,
-- other repositories

abbrev level_by : List ℕ → Level
level_by text = level (lines_in (codes "trust.log") text) (repo 2)

abbrev level_cases : List (List ℕ × Level)
level_cases =
    (codes "22222222-2222-4222-8222-222222222222 0 timestamp=1700000000s", levels.Untrusted)
    ∷ (codes "22222222-2222-4222-8222-222222222222 1 1 timestamp=1700000000s", levels.Semitrusted)
    ∷ (codes "22222222-2222-4222-8222-222222222222 0 timestamp=", levels.Semitrusted)
    ∷ (codes "22222222-2222-4222-8222-222222222222 1 timestamp=1700000000s\n22222222-2222-4222-8222-222222222222 0 timestamp=1700000000s", levels.Untrusted)
    ∷ (codes "22222222-2222-4222-8222-222222222222 0 timestamp=1700000000s\n22222222-2222-4222-8222-222222222222 1", levels.Untrusted)
    ∷ (codes "22222222-2222-4222-8222-222222222222 timestamp=1700000000s 0", levels.Semitrusted)
    ∷ ([], levels.Semitrusted)
    ∷ (codes "33333333-3333-4333-8333-333333333333 X timestamp=1s", levels.Semitrusted)
    ∷ (codes "22222222-2222-4222-8222-222222222222 X", levels.Dead)
    ∷ (codes "22222222-2222-4222-8222-222222222222 1\n22222222-2222-4222-8222-222222222222 ? timestamp=1s", levels.Semitrusted)
    ∷ (codes "22222222-2222-4222-8222-222222222222 1\n22222222-2222-4222-8222-222222222222 ?", levels.Semitrusted)
    ∷ (codes "22222222-2222-4222-8222-222222222222 0 timestamp=1s\n22222222-2222-4222-8222-222222222222 X timestamp=1s\n22222222-2222-4222-8222-222222222222 1 timestamp=1s", levels.Dead)
    ∷ (codes "22222222-2222-4222-8222-222222222222 0 timestamp=1s\n22222222-2222-4222-8222-222222222222 ? timestamp=1s", levels.Untrusted)
    ∷ (codes "22222222-2222-4222-8222-222222222222 X timestamp=1s\n22222222-2222-4222-8222-222222222222 1 timestamp=2s\n33333333-3333-4333-8333-333333333333 0 timestamp=3s", levels.Trusted)
    ∷ (codes "22222222-2222-4222-8222-222222222222 Y timestamp=9s\n22222222-2222-4222-8222-222222222222 1 timestamp=1s", levels.Trusted)
    ∷ []

levels_are : Answers level_by level_cases
unfolding opened
levels_are = refl

-- ---- the numbers of copies of one file: its own, and 1 for the other. The first five logs of each file as git-annex
-- reads them

abbrev copies_by : List ℕ → List ℕ → ℕ × ℕ
copies_by path text = (numcopies (lines_in path text), mincopies (lines_in path text))

abbrev copies_cases : List (List ℕ × ℕ)
copies_cases =
    (codes "1700000000s 0", 1)
    ∷ (codes "1700000000s 2\n1700000000s 3", 3)
    ∷ (codes "1700000001s x\n1700000000s 3", 3)
    ∷ (codes "1700000000s 999999999", 999999999)
    ∷ (codes "1700000000.5s 2\n1700000000.25s 3", 2)
    ∷ ([], 1)
    ∷ (codes "3", 1)
    ∷ (codes "1s 1000000000", 1)
    ∷ (codes "1s 07", 7)
    ∷ (codes "1s 5\n2s 0", 1)
    ∷ []

numcopies_are : Answers (copies_by (codes "numcopies.log")) (map (λ (c : List ℕ × ℕ). (c.0, (c.1, 1))) copies_cases)
unfolding opened
numcopies_are = refl

mincopies_are : Answers (copies_by (codes "mincopies.log")) (map (λ (c : List ℕ × ℕ). (c.0, (1, c.1))) copies_cases)
unfolding opened
mincopies_are = refl

-- ---- a repository's description and its preferred and required expressions, of one file: its own text, and none for the
-- others. The first six logs of each file as git-annex reads them

abbrev texts_by : List ℕ → List ℕ → List (List ℕ)
texts_by path text = description (lines_in path text) (repo 2) ∷ preferred (lines_in path text) (repo 2) ∷ required (lines_in path text) (repo 2) ∷ []

abbrev text_cases : List (List ℕ × List ℕ)
text_cases =
    (codes "22222222-2222-4222-8222-222222222222   timestamp=1700000000s", codes " ")
    ∷ (codes "22222222-2222-4222-8222-222222222222 timestamp=1700000000s", [])
    ∷ (codes "22222222-2222-4222-8222-222222222222 present   timestamp=1700000000s", codes "present  ")
    ∷ (codes "22222222-2222-4222-8222-222222222222 a" ++ 9 ∷ codes "b timestamp=1700000000s", codes "a" ++ 9 ∷ codes "b")
    ∷ (codes "22222222-2222-4222-8222-222222222222 present timestamp=x\n22222222-2222-4222-8222-222222222222 anything timestamp=1700000000s", codes "anything")
    ∷ (codes "22222222-2222-4222-8222-222222222222", [])
    ∷ ([], [])
    ∷ (codes "33333333-3333-4333-8333-333333333333 anything timestamp=1s", [])
    ∷ (codes "22222222-2222-4222-8222-222222222222 old\n22222222-2222-4222-8222-222222222222 new timestamp=1s", codes "new")
    ∷ (codes "22222222-2222-4222-8222-222222222222 b timestamp=1s\n22222222-2222-4222-8222-222222222222 a timestamp=1s", codes "b")
    ∷ (codes "22222222-2222-4222-8222-222222222222 a timestamp=1s\n22222222-2222-4222-8222-222222222222  timestamp=2s", [])
    ∷ []

descriptions : Answers (texts_by (codes "uuid.log")) (map (λ (c : List ℕ × List ℕ). (c.0, c.1 ∷ [] ∷ [] ∷ [])) text_cases)
unfolding opened
descriptions = refl

preferred_are : Answers (texts_by (codes "preferred-content.log")) (map (λ (c : List ℕ × List ℕ). (c.0, [] ∷ c.1 ∷ [] ∷ [])) text_cases)
unfolding opened
preferred_are = refl

required_are : Answers (texts_by (codes "required-content.log")) (map (λ (c : List ℕ × List ℕ). (c.0, [] ∷ [] ∷ c.1 ∷ [])) text_cases)
unfolding opened
required_are = refl

-- ---- a repository's groups, and the repositories that are in one. The first two logs as git-annex reads them, the third
-- as it writes it when the last group is left

abbrev groups_by : List ℕ → List (List ℕ) × List (List ℕ)
groups_by text = (groups (lines_in (codes "group.log") text) (repo 2), repos_in_groups (lines_in (codes "group.log") text))

abbrev groups_cases : List (List ℕ × (List (List ℕ) × List (List ℕ)))
groups_cases =
    (codes "22222222-2222-4222-8222-222222222222 timestamp=5 timestamp=1700000000s", (codes "timestamp=5" ∷ [], repo 2 ∷ []))
    ∷ (codes "22222222-2222-4222-8222-222222222222 b a timestamp=1700000000s\n22222222-2222-4222-8222-222222222222 a b timestamp=1700000000s", (codes "b" ∷ codes "a" ∷ [], repo 2 ∷ []))
    ∷ (codes "22222222-2222-4222-8222-222222222222 a timestamp=1s\n22222222-2222-4222-8222-222222222222  timestamp=2s", ([], []))
    ∷ ([], ([], []))
    ∷ (codes "22222222-2222-4222-8222-222222222222 a timestamp=1s\n22222222-2222-4222-8222-222222222222 timestamp=2s", ([], []))
    ∷ (codes "22222222-2222-4222-8222-222222222222 a\n22222222-2222-4222-8222-222222222222 b timestamp=1s", (codes "b" ∷ [], repo 2 ∷ []))
    ∷ (codes "33333333-3333-4333-8333-333333333333 x timestamp=1s\n22222222-2222-4222-8222-222222222222 a a timestamp=1s", (codes "a" ∷ codes "a" ∷ [], repo 2 ∷ repo 3 ∷ []))
    ∷ (codes "33333333-3333-4333-8333-333333333333 x timestamp=1s\n22222222-2222-4222-8222-222222222222  timestamp=1s", ([], repo 3 ∷ []))
    ∷ []

groups_are : Answers groups_by groups_cases
unfolding opened
groups_are = refl

-- ---- the expression of the content that the group `timestamp=5` prefers. The first log as git-annex reads it

abbrev group_text_by : List ℕ → List ℕ
group_text_by text = group_preferred (lines_in (codes "group-preferred-content.log") text) (codes "timestamp=5")

abbrev group_text_cases : List (List ℕ × List ℕ)
group_text_cases =
    (codes "1700000000s timestamp=5 present", codes "present")
    ∷ ([], [])
    ∷ (codes "1s archive present", [])
    ∷ (codes "1s timestamp=5 a\n1s timestamp=5 b", codes "b")
    ∷ (codes "1s timestamp=5 a\n2s timestamp=5 ", [])
    ∷ (codes "timestamp=5 present", [])
    ∷ []

group_texts : Answers group_text_by group_text_cases
unfolding opened
group_texts = refl
