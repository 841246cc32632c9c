-- What the proof of `closing::close_ends` needs beside the tactics.
use Rattle.std.proofs.Common.{◌≡◌, ◌≢◌, ◌<◌, ◌+◌, ℕ, true, Err, IsErrOf, OnErr, OnOk, length, refl, subst, sym, ap, ◌∙◌}
use Rattle.std.specs.Prelude.{nat_lt}
use Rattle.run_data.specs.Histories.{most_entries}
use Rattle.node_past.specs.declared.refused.NodeRefused.TheVariants as refusals
use Rattle.node_past.proofs.OwedLemmas.{debts_grow, owed_grows, owed_in}
use Rattle.node_ledger.proofs.WriteLemmas.{ledger_of}
use Rattle.node_parts.specs.Places.{PlaceView}
use Rattle.node_steps.specs.Closing.{ClosesEach, ends_to, lacks_places, open_count}
use Rattle.node_steps.specs.Nodes.{beside, told_of}
use Rattle.node_steps.proofs.BeginLemmas.{kept_entered}
use Rattle.node_steps.proofs.CloseLemmas.{CalledSo, called}
use Rattle.node_steps.proofs.KeptLemmas.{stands_in}
use Rattle.node_steps.proofs.MoveLemmas.{seen}
use Rattle.node_steps.proofs.closing.close_ends.Given as given
use Rattle.node_steps.proofs.closing.close_ends.Goals as goal
use Rattle.node_steps.proofs.closing.close_ends.Goals.{After-close_all}

pub close_all-requires-clause-known : goal.close_all-requires-clause-known
close_all-requires-clause-known g c = subst (λ (p : PlaceView). c.args.peer < length p.ids) (sym c.requires.stands.kept.place) c.requires.known

-- what the call leaves
call : (g : given.Over) (c : After-close_all g) → CalledSo c.ledger.inside.keeper c.close_all.result c.args.peer c.args.parts.now c.close_all.new.parts c.ledger.inside.past c.close_all.new.past c.ledger.inside.branch (owed_in c.ledger.inside.past c.ledger.inside.debts.items)
    (told_of (g.K.Keeper.contents c.ledger.inside.keeper) (g.K.Keeper.parts c.ledger.inside.keeper))
call g c =
    let i = c.ledger.inside in
    let p = c.args.parts.now in
    let w = c.close_all in
    let stands = stands_in g.K.Keeper.contents g.K.Keeper.parts g.K.Keeper.records (ledger_of i.keeper i.branch i.past (owed_in i.past i.debts.items)) c.args.ledger.now p c.ledger.view_is c.requires.stands in
    called i.keeper w.result c.args.peer p w.new.parts i.past w.new.past i.branch (owed_in i.past i.debts.items) (told_of (g.K.Keeper.contents i.keeper) (g.K.Keeper.parts i.keeper)) c.tables_fill_as_states.ensures
    (subst (λ v. c.args.peer < length v.setup.repos) (sym c.ledger.view_is) c.requires.known) (subst (λ v. c.args.peer ≢ v.setup.number) (sym c.ledger.view_is) c.requires.other) w.ensures.ok w.ensures.err stands.kept

pub invariant_of-ledger : goal.invariant_of-ledger
invariant_of-ledger g c =
    let i = c.ledger.inside in
    (c.ledger.invariant.0, c.ledger.invariant.1, debts_grow i.past c.close_all.new.past i.debts.items (call g c).grows c.ledger.invariant.2)

pub returns-clause-stands : goal.returns-clause-stands
returns-clause-stands g c =
    let i = c.ledger.inside in
    let p = c.args.parts.now in
    let last = c.close_all.new.past in
    let all = call g c in
    let stands = stands_in g.K.Keeper.contents g.K.Keeper.parts g.K.Keeper.records (ledger_of i.keeper i.branch i.past (owed_in i.past i.debts.items)) c.args.ledger.now p c.ledger.view_is c.requires.stands in
    let owes = owed_grows i.past last i.debts.items all.grows c.ledger.invariant.2 in record {
      kept = kept_entered last.setup last.setup last.clock last.clock last.history.items last.history.items c.close_all.new.parts i.branch (owed_in i.past i.debts.items) (owed_in last i.debts.items) (told_of (g.K.Keeper.contents i.keeper) (g.K.Keeper.parts i.keeper)) refl refl refl owes all.kept;
      agrees = all.agrees (g.K.Keeper.records i.keeper) stands.agrees;
      fed = all.fed (g.K.Keeper.parts i.keeper) stands.fed;
    }

pub returns-clause-ok : goal.returns-clause-ok
returns-clause-ok g c =
    let i = c.ledger.inside in
    let p = c.args.parts.now in
    let w = c.close_all in
    let all = call g c in
    let owes = owed_grows i.past w.new.past i.debts.items all.grows c.ledger.invariant.2 in
    subst (λ v. OnOk w.result (ClosesEach (told_of (g.K.Keeper.contents v.keeper) (g.K.Keeper.parts v.keeper)) (ends_to c.args.peer) (beside p v) (seen i.keeper w.new.parts i.branch w.new.past (owed_in w.new.past i.debts.items)))) c.ledger.view_is
    (subst (λ os. OnOk w.result (ClosesEach (told_of (g.K.Keeper.contents i.keeper) (g.K.Keeper.parts i.keeper)) (ends_to c.args.peer) (seen i.keeper p i.branch i.past (owed_in i.past i.debts.items)) (seen i.keeper w.new.parts i.branch w.new.past os))) (sym owes) all.ok)

pub returns-clause-full : goal.returns-clause-full
returns-clause-full g c =
    let i = c.ledger.inside in
    let p = c.args.parts.now in
    let w = c.close_all in
    subst (λ v. IsErrOf w.result refusals.Full → lacks_places (beside p v) c.args.peer ≡ true) c.ledger.view_is
    (λ full. ap (λ (n : ℕ). nat_lt most_entries (n + open_count p.links (ends_to c.args.peer))) (sym i.past.history.ok.0) ∙ w.ensures.full full)

pub returns-clause-lacks : goal.returns-clause-lacks
returns-clause-lacks g c =
    let i = c.ledger.inside in
    let p = c.args.parts.now in
    let w = c.close_all in
    subst (λ v. lacks_places (beside p v) c.args.peer ≡ true → w.result ≡ Err refusals.Full) c.ledger.view_is
    (λ lacks. w.ensures.lacks (ap (λ (n : ℕ). nat_lt most_entries (n + open_count p.links (ends_to c.args.peer))) i.past.history.ok.0 ∙ lacks))

pub returns-clause-paired : goal.returns-clause-paired
returns-clause-paired g c = (call g c).paired

pub returns-clause-err : goal.returns-clause-err
returns-clause-err g c =
    let i = c.ledger.inside in
    let p = c.args.parts.now in
    let w = c.close_all in
    let all = call g c in
    let owes = owed_grows i.past w.new.past i.debts.items all.grows c.ledger.invariant.2 in
    subst (λ v. OnErr w.result (seen i.keeper w.new.parts i.branch w.new.past (owed_in w.new.past i.debts.items) ≡ beside p v)) c.ledger.view_is
    (subst (λ os. OnErr w.result (seen i.keeper w.new.parts i.branch w.new.past os ≡ seen i.keeper p i.branch i.past (owed_in i.past i.debts.items))) (sym owes) all.err)
