-- What the proof of `contents::change` needs beside the tactics.
use Rattle.std.proofs.Common.{◌≡◌, ℕ, ◌+◌, List, ◌||◌, if◌then◌else◌, subst}
use Rattle.std.specs.BTreeSet.{btree_set_len, contains}
use Rattle.std.specs.Str.{bytes_eq}
use Rattle.report_tables.specs.Contents.{key_cmp}
use Rattle.report_tables.proofs.Tables.{contains_gained, contains_gone, count_gained, count_gone}
use Rattle.report_tables.proofs.contents.change.Goals as goal

pub returns-in_ok-insert-in-Gain-clause-ok : goal.returns-in_ok-insert-in-Gain-clause-ok
returns-in_ok-insert-in-Gain-clause-ok c key =
    rw c.in-Gain.is
    (subst (λ (k : List ℕ). contains key_cmp c.insert.new.self key ≡ (contains key_cmp c.args.keys.now key || bytes_eq k key)) c.in_ok-clone-in-Gain.ensures.cases
    (contains_gained c.args.keys.now c.insert.new.self c.in_ok-clone-in-Gain.field-0 key c.in_ok-insert-in-Gain.ensures.updates))

pub returns-in-Gone-clause-ok : goal.returns-in-Gone-clause-ok
returns-in-Gone-clause-ok c key = rw c.in-Gone.is (contains_gone c.args.keys.now c.remove.new.self c.in-Gone.key key c.remove.ensures.updates)

pub returns-in_ok-insert-in-Gain-clause-count : goal.returns-in_ok-insert-in-Gain-clause-count
returns-in_ok-insert-in-Gain-clause-count c =
    rw c.in-Gain.is
    (subst (λ (k : List ℕ). btree_set_len c.insert.new.self ≡ (if contains key_cmp c.args.keys.now k then btree_set_len c.args.keys.now else btree_set_len c.args.keys.now + 1)) c.in_ok-clone-in-Gain.ensures.cases
    (count_gained (contains key_cmp c.args.keys.now c.in_ok-clone-in-Gain.field-0) c.in_ok-insert-in-Gain.field-0 (btree_set_len c.args.keys.now) (btree_set_len c.insert.new.self) c.in_ok-insert-in-Gain.ensures.added c.in_ok-insert-in-Gain.ensures.len))

pub returns-in-Gone-clause-count : goal.returns-in-Gone-clause-count
returns-in-Gone-clause-count c =
    rw c.in-Gone.is (count_gone (contains key_cmp c.args.keys.now c.in-Gone.key) c.remove.result (btree_set_len c.args.keys.now) (btree_set_len c.remove.new.self) c.remove.ensures.test c.remove.ensures.len)
