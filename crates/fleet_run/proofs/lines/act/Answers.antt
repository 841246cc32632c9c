-- What the proof of `lines::act` needs beside the tactics.
use Rattle.std.proofs.Common.{ap, length, refl, subst, sym, ◌+◌, ◌≤◌}
use Rattle.annex_base.proofs.Numbers.{below_more}
use Rattle.fleet_entries.specs.Stored.{StoreView, store_view}
use Rattle.script_commands.specs.declared.command.Action.TheVariants as actions
use Rattle.script_commands.specs.declared.command.Command.TheVariants as commands
use Rattle.fleet_run.proofs.Commands.{added_kind, added_path, as_form, built_as, file_line, in_time, may_begin, short_content, stands_as, stops_as, within_as}
use Rattle.fleet_entries.proofs.Ended.{on_ok}
use Rattle.fleet_run.proofs.Cutting.{CutLaws, always_ok, cut_as, cuts_closed, form_ends, have_cuts, room_as, room_asked, room_closed, room_unasked, unasked_cuts}
use Rattle.fleet_entries.proofs.Full.{behind}
use Rattle.fleet_entries.proofs.Starts.{on_err}
use Rattle.fleet_run.proofs.lines.act.Goals as goal

pub place-requires-clause-there : goal.place-requires-clause-there
place-requires-clause-there g c = below_more c.in-Have.repo (length c.requires.may.context.repos) (length c.args.running.now.nodes) (stands_as c.requires.may.context c.args.action.now (actions.Have c.in-Have.repo c.in-Have.key c.in-Have.content) c.in-Have.is c.requires.may.stands).0 c.requires.may.repos

pub place-requires-clause-driven : goal.place-requires-clause-driven
place-requires-clause-driven g c = c.requires.driven

pub place-requires-clause-key : goal.place-requires-clause-key
place-requires-clause-key g c = (stands_as c.requires.may.context c.args.action.now (actions.Have c.in-Have.repo c.in-Have.key c.in-Have.content) c.in-Have.is c.requires.may.stands).1

pub place-requires-clause-right : goal.place-requires-clause-right
place-requires-clause-right g c = (stands_as c.requires.may.context c.args.action.now (actions.Have c.in-Have.repo c.in-Have.key c.in-Have.content) c.in-Have.is c.requires.may.stands).2

pub place-requires-clause-small : goal.place-requires-clause-small
place-requires-clause-small g c = short_content c.in-Have.content (stands_as c.requires.may.context c.args.action.now (actions.Have c.in-Have.repo c.in-Have.key c.in-Have.content) c.in-Have.is c.requires.may.stands).3

pub returns-in-Have : goal.returns-in-Have
returns-in-Have g c =
    let tells : g.row.K.Denot → StoreView = λ k. store_view (g.K.Keeper.contents k) (g.K.Keeper.parts k) (g.K.Keeper.failing k) (g.K.Keeper.faults k) in
    let laws : CutLaws = record { cut = c.runs_are_cut_where_histories_are_full.ensures.cut; entries = c.runs_are_cut_where_histories_are_full.ensures.entries; marks = c.runs_are_cut_where_histories_are_full.ensures.marks; tree = c.runs_are_cut_where_histories_are_full.ensures.tree } in
    record {
      ok = on_ok c.place.result _ _ c.place.ensures.ok (λ goes. as_form tells (commands.Does c.args.action.now) (commands.Does (actions.Have c.in-Have.repo c.in-Have.key c.in-Have.content)) c.args.running.now c.place.new.running (ap commands.Does c.in-Have.is) goes);
      room = on_ok c.place.result _ _ c.place.ensures.room (λ room. room_asked tells c.in-Have.repo c.args.action.now (actions.Have c.in-Have.repo c.in-Have.key c.in-Have.content) c.args.running.now c.in-Have.is refl (λ given d. refl) room);
      full = λ r e. cut_as tells r (commands.Does c.args.action.now) (commands.Does (actions.Have c.in-Have.repo c.in-Have.key c.in-Have.content)) c.args.running.now c.place.new.running (ap commands.Does c.in-Have.is) (have_cuts tells laws c.in-Have.repo r c.in-Have.key c.in-Have.content c.args.running.now c.place.new.running (c.place.ensures.full r e) c.place.ensures.rest);
      stopped = on_err c.place.result _ _ c.place.ensures.stopped (λ stops. stops_as tells (commands.Does c.args.action.now) (commands.Does (actions.Have c.in-Have.repo c.in-Have.key c.in-Have.content)) c.args.running.now c.place.new.running (ap commands.Does c.in-Have.is) stops);
      rest = behind c.args.running.now c.place.new.running c.place.ensures.rest;
    }

pub place_part-requires-clause-there : goal.place_part-requires-clause-there
place_part-requires-clause-there g c = below_more c.in-SetPart.repo (length c.requires.may.context.repos) (length c.args.running.now.nodes) (stands_as c.requires.may.context c.args.action.now (actions.SetPart c.in-SetPart.repo c.in-SetPart.key c.in-SetPart.content) c.in-SetPart.is c.requires.may.stands).0 c.requires.may.repos

pub place_part-requires-clause-driven : goal.place_part-requires-clause-driven
place_part-requires-clause-driven g c = c.requires.driven

pub place_part-requires-clause-small : goal.place_part-requires-clause-small
place_part-requires-clause-small g c = short_content c.in-SetPart.content (stands_as c.requires.may.context c.args.action.now (actions.SetPart c.in-SetPart.repo c.in-SetPart.key c.in-SetPart.content) c.in-SetPart.is c.requires.may.stands).2

pub returns-in-SetPart : goal.returns-in-SetPart
returns-in-SetPart g c =
    let tells : g.row.K.Denot → StoreView = λ k. store_view (g.K.Keeper.contents k) (g.K.Keeper.parts k) (g.K.Keeper.failing k) (g.K.Keeper.faults k) in
    let laws : CutLaws = record { cut = c.runs_are_cut_where_histories_are_full.ensures.cut; entries = c.runs_are_cut_where_histories_are_full.ensures.entries; marks = c.runs_are_cut_where_histories_are_full.ensures.marks; tree = c.runs_are_cut_where_histories_are_full.ensures.tree } in
    let action = actions.SetPart c.in-SetPart.repo c.in-SetPart.key c.in-SetPart.content in
    let form = commands.Does action in
    record {
      ok = on_ok c.place_part.result _ _ c.place_part.ensures.ok (λ goes. as_form tells (commands.Does c.args.action.now) form c.args.running.now c.place_part.new.running (ap commands.Does c.in-SetPart.is) goes);
      room = on_ok c.place_part.result _ _ c.place_part.ensures.room (λ room. room_asked tells c.in-SetPart.repo c.args.action.now action c.args.running.now c.in-SetPart.is refl (λ given d. refl) room);
      full = λ r e. cut_as tells r (commands.Does c.args.action.now) form c.args.running.now c.place_part.new.running (ap commands.Does c.in-SetPart.is) (unasked_cuts tells laws c.in-SetPart.repo r form refl refl c.args.running.now c.place_part.new.running (c.place_part.ensures.full r e) c.place_part.ensures.rest);
      stopped = on_err c.place_part.result _ _ c.place_part.ensures.stopped (λ stops. stops_as tells (commands.Does c.args.action.now) form c.args.running.now c.place_part.new.running (ap commands.Does c.in-SetPart.is) stops);
      rest = behind c.args.running.now c.place_part.new.running c.place_part.ensures.rest;
    }

pub add-requires-clause-there : goal.add-requires-clause-there
add-requires-clause-there g c = below_more c.in-Add.repo (length c.requires.may.context.repos) (length c.args.running.now.nodes) (stands_as c.requires.may.context c.args.action.now (actions.Add c.in-Add.repo c.in-Add.path c.in-Add.key c.in-Add.content) c.in-Add.is c.requires.may.stands).0 c.requires.may.repos

pub add-requires-clause-driven : goal.add-requires-clause-driven
add-requires-clause-driven g c = c.requires.driven

pub add-requires-clause-key : goal.add-requires-clause-key
add-requires-clause-key g c = (c.added_contents_match.ensures c.requires.may.context c.in-Add.repo c.in-Add.path c.in-Add.key c.in-Add.content (stands_as c.requires.may.context c.args.action.now (actions.Add c.in-Add.repo c.in-Add.path c.in-Add.key c.in-Add.content) c.in-Add.is c.requires.may.stands)).0

pub add-requires-clause-right : goal.add-requires-clause-right
add-requires-clause-right g c = (c.added_contents_match.ensures c.requires.may.context c.in-Add.repo c.in-Add.path c.in-Add.key c.in-Add.content (stands_as c.requires.may.context c.args.action.now (actions.Add c.in-Add.repo c.in-Add.path c.in-Add.key c.in-Add.content) c.in-Add.is c.requires.may.stands)).1

pub add-requires-clause-small : goal.add-requires-clause-small
add-requires-clause-small g c = short_content c.in-Add.content (stands_as c.requires.may.context c.args.action.now (actions.Add c.in-Add.repo c.in-Add.path c.in-Add.key c.in-Add.content) c.in-Add.is c.requires.may.stands).3

pub returns-in-Add : goal.returns-in-Add
returns-in-Add g c =
    let tells : g.row.K.Denot → StoreView = λ k. store_view (g.K.Keeper.contents k) (g.K.Keeper.parts k) (g.K.Keeper.failing k) (g.K.Keeper.faults k) in
    let form = commands.Does (actions.Add c.in-Add.repo c.in-Add.path c.in-Add.key c.in-Add.content) in
    record {
      ok = on_ok c.add.result _ _ c.add.ensures.ok (λ goes. as_form tells (commands.Does c.args.action.now) form c.args.running.now c.add.new.running (ap commands.Does c.in-Add.is) goes);
      room = on_ok c.add.result _ _ c.add.ensures.room (λ room. room_as tells (commands.Does c.args.action.now) form c.args.running.now (ap commands.Does c.in-Add.is) room);
      full = λ r e. cut_as tells r (commands.Does c.args.action.now) form c.args.running.now c.add.new.running (ap commands.Does c.in-Add.is) (c.add.ensures.full r e);
      stopped = on_err c.add.result _ _ c.add.ensures.stopped (λ stops. stops_as tells (commands.Does c.args.action.now) form c.args.running.now c.add.new.running (ap commands.Does c.in-Add.is) stops);
      rest = c.add.ensures.rest;
    }

pub enter-requires-clause-driven : goal.enter-requires-clause-driven
enter-requires-clause-driven g c = c.requires.driven

pub enter-requires-clause-key : goal.enter-requires-clause-key
enter-requires-clause-key g c = (stands_as c.requires.may.context c.args.action.now (actions.File c.in-File.path c.in-File.key) c.in-File.is c.requires.may.stands).1

pub returns-in-File : goal.returns-in-File
returns-in-File g c =
    let tells : g.row.K.Denot → StoreView = λ k. store_view (g.K.Keeper.contents k) (g.K.Keeper.parts k) (g.K.Keeper.failing k) (g.K.Keeper.faults k) in
    let form = commands.Does (actions.File c.in-File.path c.in-File.key) in
    record {
      ok = on_ok c.enter.result _ _ c.enter.ensures.ok (λ goes. as_form tells (commands.Does c.args.action.now) form c.args.running.now c.enter.new.running (ap commands.Does c.in-File.is) goes);
      room = always_ok c.enter.result _ (room_unasked tells c.args.action.now (actions.File c.in-File.path c.in-File.key) c.args.running.now c.in-File.is c.requires.may.built refl);
      full = λ r e. absurd (c.enter.ensures.full r e);
      stopped = on_err c.enter.result _ _ c.enter.ensures.stopped (λ stops. stops_as tells (commands.Does c.args.action.now) form c.args.running.now c.enter.new.running (ap commands.Does c.in-File.is) stops);
      rest = c.enter.ensures.rest;
    }

pub set-requires-clause-there : goal.set-requires-clause-there
set-requires-clause-there g c = below_more c.in-Set.repo (length c.requires.may.context.repos) (length c.args.running.now.nodes) (stands_as c.requires.may.context c.args.action.now (actions.Set c.in-Set.repo c.in-Set.kind c.in-Set.topic c.in-Set.value) c.in-Set.is c.requires.may.stands).0 c.requires.may.repos

pub set-requires-clause-driven : goal.set-requires-clause-driven
set-requires-clause-driven g c = c.requires.driven

pub set-requires-clause-kind : goal.set-requires-clause-kind
set-requires-clause-kind g c = (c.settings_are_plain.ensures c.requires.may.context c.in-Set.kind c.in-Set.topic c.in-Set.value (stands_as c.requires.may.context c.args.action.now (actions.Set c.in-Set.repo c.in-Set.kind c.in-Set.topic c.in-Set.value) c.in-Set.is c.requires.may.stands).1).0

pub set-requires-clause-topic : goal.set-requires-clause-topic
set-requires-clause-topic g c = (c.settings_are_plain.ensures c.requires.may.context c.in-Set.kind c.in-Set.topic c.in-Set.value (stands_as c.requires.may.context c.args.action.now (actions.Set c.in-Set.repo c.in-Set.kind c.in-Set.topic c.in-Set.value) c.in-Set.is c.requires.may.stands).1).1

pub set-requires-clause-value : goal.set-requires-clause-value
set-requires-clause-value g c = (c.settings_are_plain.ensures c.requires.may.context c.in-Set.kind c.in-Set.topic c.in-Set.value (stands_as c.requires.may.context c.args.action.now (actions.Set c.in-Set.repo c.in-Set.kind c.in-Set.topic c.in-Set.value) c.in-Set.is c.requires.may.stands).1).2

pub returns-in-Set : goal.returns-in-Set
returns-in-Set g c =
    let tells : g.row.K.Denot → StoreView = λ k. store_view (g.K.Keeper.contents k) (g.K.Keeper.parts k) (g.K.Keeper.failing k) (g.K.Keeper.faults k) in
    let laws : CutLaws = record { cut = c.runs_are_cut_where_histories_are_full.ensures.cut; entries = c.runs_are_cut_where_histories_are_full.ensures.entries; marks = c.runs_are_cut_where_histories_are_full.ensures.marks; tree = c.runs_are_cut_where_histories_are_full.ensures.tree } in
    record {
      ok = on_ok c.set.result _ _ c.set.ensures.ok (λ goes. as_form tells (commands.Does c.args.action.now) (commands.Does (actions.Set c.in-Set.repo c.in-Set.kind c.in-Set.topic c.in-Set.value)) c.args.running.now c.set.new.running (ap commands.Does c.in-Set.is) goes);
      room = always_ok c.set.result _ (room_unasked tells c.args.action.now (actions.Set c.in-Set.repo c.in-Set.kind c.in-Set.topic c.in-Set.value) c.args.running.now c.in-Set.is c.requires.may.built refl);
      full = λ r e. form_ends tells laws r c.args.action.now (actions.Set c.in-Set.repo c.in-Set.kind c.in-Set.topic c.in-Set.value) c.args.running.now c.set.new.running c.in-Set.is refl (c.set.ensures.full r e) c.set.ensures.rest;
      stopped = on_err c.set.result _ _ c.set.ensures.stopped (λ stops. stops_as tells (commands.Does c.args.action.now) (commands.Does (actions.Set c.in-Set.repo c.in-Set.kind c.in-Set.topic c.in-Set.value)) c.args.running.now c.set.new.running (ap commands.Does c.in-Set.is) stops);
      rest = behind c.args.running.now c.set.new.running c.set.ensures.rest;
    }

pub write-requires-clause-there : goal.write-requires-clause-there
write-requires-clause-there g c = below_more c.in-Raw.repo (length c.requires.may.context.repos) (length c.args.running.now.nodes) (stands_as c.requires.may.context c.args.action.now (actions.Raw c.in-Raw.repo c.in-Raw.file c.in-Raw.line) c.in-Raw.is c.requires.may.stands).0 c.requires.may.repos

pub write-requires-clause-driven : goal.write-requires-clause-driven
write-requires-clause-driven g c = c.requires.driven

pub write-requires-clause-file : goal.write-requires-clause-file
write-requires-clause-file g c = added_path c.in-Raw.file (stands_as c.requires.may.context c.args.action.now (actions.Raw c.in-Raw.repo c.in-Raw.file c.in-Raw.line) c.in-Raw.is c.requires.may.stands).1 (built_as c.args.action.now (actions.Raw c.in-Raw.repo c.in-Raw.file c.in-Raw.line) c.in-Raw.is c.requires.may.built)

pub write-requires-clause-kind : goal.write-requires-clause-kind
write-requires-clause-kind g c = added_kind c.in-Raw.file (built_as c.args.action.now (actions.Raw c.in-Raw.repo c.in-Raw.file c.in-Raw.line) c.in-Raw.is c.requires.may.built)

pub write-requires-clause-line : goal.write-requires-clause-line
write-requires-clause-line g c = file_line c.in-Raw.line (stands_as c.requires.may.context c.args.action.now (actions.Raw c.in-Raw.repo c.in-Raw.file c.in-Raw.line) c.in-Raw.is c.requires.may.stands).3 (stands_as c.requires.may.context c.args.action.now (actions.Raw c.in-Raw.repo c.in-Raw.file c.in-Raw.line) c.in-Raw.is c.requires.may.stands).2.single

pub returns-in-Raw : goal.returns-in-Raw
returns-in-Raw g c =
    let tells : g.row.K.Denot → StoreView = λ k. store_view (g.K.Keeper.contents k) (g.K.Keeper.parts k) (g.K.Keeper.failing k) (g.K.Keeper.faults k) in
    let laws : CutLaws = record { cut = c.runs_are_cut_where_histories_are_full.ensures.cut; entries = c.runs_are_cut_where_histories_are_full.ensures.entries; marks = c.runs_are_cut_where_histories_are_full.ensures.marks; tree = c.runs_are_cut_where_histories_are_full.ensures.tree } in
    record {
      ok = on_ok c.write.result _ _ c.write.ensures.ok (λ goes. as_form tells (commands.Does c.args.action.now) (commands.Does (actions.Raw c.in-Raw.repo c.in-Raw.file c.in-Raw.line)) c.args.running.now c.write.new.running (ap commands.Does c.in-Raw.is) goes);
      room = always_ok c.write.result _ (room_unasked tells c.args.action.now (actions.Raw c.in-Raw.repo c.in-Raw.file c.in-Raw.line) c.args.running.now c.in-Raw.is c.requires.may.built refl);
      full = λ r e. form_ends tells laws r c.args.action.now (actions.Raw c.in-Raw.repo c.in-Raw.file c.in-Raw.line) c.args.running.now c.write.new.running c.in-Raw.is refl (c.write.ensures.full r e) c.write.ensures.rest;
      stopped = on_err c.write.result _ _ c.write.ensures.stopped (λ stops. stops_as tells (commands.Does c.args.action.now) (commands.Does (actions.Raw c.in-Raw.repo c.in-Raw.file c.in-Raw.line)) c.args.running.now c.write.new.running (ap commands.Does c.in-Raw.is) stops);
      rest = behind c.args.running.now c.write.new.running c.write.ensures.rest;
    }

pub merge-requires-clause-there : goal.merge-requires-clause-there
merge-requires-clause-there g c = below_more c.in-Merge.repo (length c.requires.may.context.repos) (length c.args.running.now.nodes) (stands_as c.requires.may.context c.args.action.now (actions.Merge c.in-Merge.repo c.in-Merge.other) c.in-Merge.is c.requires.may.stands).first c.requires.may.repos

pub merge-requires-clause-driven : goal.merge-requires-clause-driven
merge-requires-clause-driven g c = c.requires.driven

pub merge-requires-clause-other : goal.merge-requires-clause-other
merge-requires-clause-other g c = below_more c.in-Merge.other (length c.requires.may.context.repos) (length c.args.running.now.nodes) (stands_as c.requires.may.context c.args.action.now (actions.Merge c.in-Merge.repo c.in-Merge.other) c.in-Merge.is c.requires.may.stands).second c.requires.may.repos

pub returns-in-Merge : goal.returns-in-Merge
returns-in-Merge g c =
    let tells : g.row.K.Denot → StoreView = λ k. store_view (g.K.Keeper.contents k) (g.K.Keeper.parts k) (g.K.Keeper.failing k) (g.K.Keeper.faults k) in
    let laws : CutLaws = record { cut = c.runs_are_cut_where_histories_are_full.ensures.cut; entries = c.runs_are_cut_where_histories_are_full.ensures.entries; marks = c.runs_are_cut_where_histories_are_full.ensures.marks; tree = c.runs_are_cut_where_histories_are_full.ensures.tree } in
    record {
      ok = on_ok c.merge.result _ _ c.merge.ensures.ok (λ goes. as_form tells (commands.Does c.args.action.now) (commands.Does (actions.Merge c.in-Merge.repo c.in-Merge.other)) c.args.running.now c.merge.new.running (ap commands.Does c.in-Merge.is) goes);
      room = always_ok c.merge.result _ (room_unasked tells c.args.action.now (actions.Merge c.in-Merge.repo c.in-Merge.other) c.args.running.now c.in-Merge.is c.requires.may.built refl);
      full = λ r e. form_ends tells laws r c.args.action.now (actions.Merge c.in-Merge.repo c.in-Merge.other) c.args.running.now c.merge.new.running c.in-Merge.is refl (c.merge.ensures.full r e) c.merge.ensures.rest;
      stopped = on_err c.merge.result _ _ c.merge.ensures.stopped (λ stops. stops_as tells (commands.Does c.args.action.now) (commands.Does (actions.Merge c.in-Merge.repo c.in-Merge.other)) c.args.running.now c.merge.new.running (ap commands.Does c.in-Merge.is) stops);
      rest = behind c.args.running.now c.merge.new.running c.merge.ensures.rest;
    }

pub compact-requires-clause-there : goal.compact-requires-clause-there
compact-requires-clause-there g c = below_more c.in-Compact.repo (length c.requires.may.context.repos) (length c.args.running.now.nodes) (stands_as c.requires.may.context c.args.action.now (actions.Compact c.in-Compact.repo) c.in-Compact.is c.requires.may.stands) c.requires.may.repos

pub compact-requires-clause-driven : goal.compact-requires-clause-driven
compact-requires-clause-driven g c = c.requires.driven

pub returns-in-Compact : goal.returns-in-Compact
returns-in-Compact g c =
    let tells : g.row.K.Denot → StoreView = λ k. store_view (g.K.Keeper.contents k) (g.K.Keeper.parts k) (g.K.Keeper.failing k) (g.K.Keeper.faults k) in
    let laws : CutLaws = record { cut = c.runs_are_cut_where_histories_are_full.ensures.cut; entries = c.runs_are_cut_where_histories_are_full.ensures.entries; marks = c.runs_are_cut_where_histories_are_full.ensures.marks; tree = c.runs_are_cut_where_histories_are_full.ensures.tree } in
    record {
      ok = on_ok c.compact.result _ _ c.compact.ensures.ok (λ goes. as_form tells (commands.Does c.args.action.now) (commands.Does (actions.Compact c.in-Compact.repo)) c.args.running.now c.compact.new.running (ap commands.Does c.in-Compact.is) goes);
      room = always_ok c.compact.result _ (room_unasked tells c.args.action.now (actions.Compact c.in-Compact.repo) c.args.running.now c.in-Compact.is c.requires.may.built refl);
      full = λ r e. form_ends tells laws r c.args.action.now (actions.Compact c.in-Compact.repo) c.args.running.now c.compact.new.running c.in-Compact.is refl (c.compact.ensures.full r e) c.compact.ensures.rest;
      stopped = on_err c.compact.result _ _ c.compact.ensures.stopped (λ stops. stops_as tells (commands.Does c.args.action.now) (commands.Does (actions.Compact c.in-Compact.repo)) c.args.running.now c.compact.new.running (ap commands.Does c.in-Compact.is) stops);
      rest = behind c.args.running.now c.compact.new.running c.compact.ensures.rest;
    }

pub sync-requires-clause-there : goal.sync-requires-clause-there
sync-requires-clause-there g c = λ κs lives. below_more c.in-Sync.repo (length c.requires.may.context.repos) (length c.args.running.now.nodes) (stands_as c.requires.may.context c.args.action.now (actions.Sync c.in-Sync.repo) c.in-Sync.is c.requires.may.stands) c.requires.may.repos

pub sync-requires-clause-driven : goal.sync-requires-clause-driven
sync-requires-clause-driven g c = λ κs lives. c.requires.driven

pub returns-in-Sync : goal.returns-in-Sync
returns-in-Sync g c =
    let tells : g.row.K.Denot → StoreView = λ k. store_view (g.K.Keeper.contents k) (g.K.Keeper.parts k) (g.K.Keeper.failing k) (g.K.Keeper.faults k) in
    let laws : CutLaws = record { cut = c.runs_are_cut_where_histories_are_full.ensures.cut; entries = c.runs_are_cut_where_histories_are_full.ensures.entries; marks = c.runs_are_cut_where_histories_are_full.ensures.marks; tree = c.runs_are_cut_where_histories_are_full.ensures.tree } in
    record {
      ok = on_ok c.sync.result _ _ c.sync.ensures.ok (λ goes. as_form tells (commands.Does c.args.action.now) (commands.Does (actions.Sync c.in-Sync.repo)) c.args.running.now c.sync.new.running (ap commands.Does c.in-Sync.is) goes);
      room = always_ok c.sync.result _ (room_unasked tells c.args.action.now (actions.Sync c.in-Sync.repo) c.args.running.now c.in-Sync.is c.requires.may.built refl);
      full = λ r e. form_ends tells laws r c.args.action.now (actions.Sync c.in-Sync.repo) c.args.running.now c.sync.new.running c.in-Sync.is refl (c.sync.ensures.full r e) c.sync.ensures.rest;
      stopped = on_err c.sync.result _ _ c.sync.ensures.stopped (λ stops. stops_as tells (commands.Does c.args.action.now) (commands.Does (actions.Sync c.in-Sync.repo)) c.args.running.now c.sync.new.running (ap commands.Does c.in-Sync.is) stops);
      rest = behind c.args.running.now c.sync.new.running c.sync.ensures.rest;
    }

pub begin-requires-clause-there : goal.begin-requires-clause-there
begin-requires-clause-there g c = below_more c.in-Begin.repo (length c.requires.may.context.repos) (length c.args.running.now.nodes) (stands_as c.requires.may.context c.args.action.now (actions.Begin c.in-Begin.repo c.in-Begin.job) c.in-Begin.is c.requires.may.stands).repo c.requires.may.repos

pub begin-requires-clause-driven : goal.begin-requires-clause-driven
begin-requires-clause-driven g c = c.requires.driven

pub begin-requires-clause-may : goal.begin-requires-clause-may
begin-requires-clause-may g c =
    may_begin c.requires.may.context c.in-Begin.repo c.in-Begin.job (length c.args.running.now.nodes) c.requires.may.repos (built_as c.args.action.now (actions.Begin c.in-Begin.repo c.in-Begin.job) c.in-Begin.is c.requires.may.built)
    (stands_as c.requires.may.context c.args.action.now (actions.Begin c.in-Begin.repo c.in-Begin.job) c.in-Begin.is c.requires.may.stands)

pub begin-requires-clause-key : goal.begin-requires-clause-key
begin-requires-clause-key g c = (c.key_texts_have_no_fault.ensures.sound c.in-Begin.job.key).1 (stands_as c.requires.may.context c.args.action.now (actions.Begin c.in-Begin.repo c.in-Begin.job) c.in-Begin.is c.requires.may.stands).key.text

pub returns-in-Begin : goal.returns-in-Begin
returns-in-Begin g c =
    let tells : g.row.K.Denot → StoreView = λ k. store_view (g.K.Keeper.contents k) (g.K.Keeper.parts k) (g.K.Keeper.failing k) (g.K.Keeper.faults k) in
    let laws : CutLaws = record { cut = c.runs_are_cut_where_histories_are_full.ensures.cut; entries = c.runs_are_cut_where_histories_are_full.ensures.entries; marks = c.runs_are_cut_where_histories_are_full.ensures.marks; tree = c.runs_are_cut_where_histories_are_full.ensures.tree } in
    record {
      ok = on_ok c.begin.result _ _ c.begin.ensures.ok (λ goes. as_form tells (commands.Does c.args.action.now) (commands.Does (actions.Begin c.in-Begin.repo c.in-Begin.job)) c.args.running.now c.begin.new.running (ap commands.Does c.in-Begin.is) goes);
      room = always_ok c.begin.result _ (room_unasked tells c.args.action.now (actions.Begin c.in-Begin.repo c.in-Begin.job) c.args.running.now c.in-Begin.is c.requires.may.built refl);
      full = λ r e. form_ends tells laws r c.args.action.now (actions.Begin c.in-Begin.repo c.in-Begin.job) c.args.running.now c.begin.new.running c.in-Begin.is refl (c.begin.ensures.full r e) c.begin.ensures.rest;
      stopped = on_err c.begin.result _ _ c.begin.ensures.stopped (λ stops. stops_as tells (commands.Does c.args.action.now) (commands.Does (actions.Begin c.in-Begin.repo c.in-Begin.job)) c.args.running.now c.begin.new.running (ap commands.Does c.in-Begin.is) stops);
      rest = behind c.args.running.now c.begin.new.running c.begin.ensures.rest;
    }

pub begin_and_settle-requires-clause-there : goal.begin_and_settle-requires-clause-there
begin_and_settle-requires-clause-there g c = below_more c.in-Run.repo (length c.requires.may.context.repos) (length c.args.running.now.nodes) (stands_as c.requires.may.context c.args.action.now (actions.Run c.in-Run.repo c.in-Run.job) c.in-Run.is c.requires.may.stands).repo c.requires.may.repos

pub begin_and_settle-requires-clause-driven : goal.begin_and_settle-requires-clause-driven
begin_and_settle-requires-clause-driven g c = c.requires.driven

pub begin_and_settle-requires-clause-may : goal.begin_and_settle-requires-clause-may
begin_and_settle-requires-clause-may g c =
    may_begin c.requires.may.context c.in-Run.repo c.in-Run.job (length c.args.running.now.nodes) c.requires.may.repos (built_as c.args.action.now (actions.Run c.in-Run.repo c.in-Run.job) c.in-Run.is c.requires.may.built)
    (stands_as c.requires.may.context c.args.action.now (actions.Run c.in-Run.repo c.in-Run.job) c.in-Run.is c.requires.may.stands)

pub begin_and_settle-requires-clause-key : goal.begin_and_settle-requires-clause-key
begin_and_settle-requires-clause-key g c = (c.key_texts_have_no_fault.ensures.sound c.in-Run.job.key).1 (stands_as c.requires.may.context c.args.action.now (actions.Run c.in-Run.repo c.in-Run.job) c.in-Run.is c.requires.may.stands).key.text

pub returns-in-Run : goal.returns-in-Run
returns-in-Run g c =
    let tells : g.row.K.Denot → StoreView = λ k. store_view (g.K.Keeper.contents k) (g.K.Keeper.parts k) (g.K.Keeper.failing k) (g.K.Keeper.faults k) in
    let laws : CutLaws = record { cut = c.runs_are_cut_where_histories_are_full.ensures.cut; entries = c.runs_are_cut_where_histories_are_full.ensures.entries; marks = c.runs_are_cut_where_histories_are_full.ensures.marks; tree = c.runs_are_cut_where_histories_are_full.ensures.tree } in
    record {
      ok = on_ok c.begin_and_settle.result _ _ c.begin_and_settle.ensures.ok (λ goes. as_form tells (commands.Does c.args.action.now) (commands.Does (actions.Run c.in-Run.repo c.in-Run.job)) c.args.running.now c.begin_and_settle.new.running (ap commands.Does c.in-Run.is) goes);
      room = always_ok c.begin_and_settle.result _ (room_unasked tells c.args.action.now (actions.Run c.in-Run.repo c.in-Run.job) c.args.running.now c.in-Run.is c.requires.may.built refl);
      full = λ r e. form_ends tells laws r c.args.action.now (actions.Run c.in-Run.repo c.in-Run.job) c.args.running.now c.begin_and_settle.new.running c.in-Run.is refl (c.begin_and_settle.ensures.full r e) c.begin_and_settle.ensures.rest;
      stopped = on_err c.begin_and_settle.result _ _ c.begin_and_settle.ensures.stopped (λ stops. stops_as tells (commands.Does c.args.action.now) (commands.Does (actions.Run c.in-Run.repo c.in-Run.job)) c.args.running.now c.begin_and_settle.new.running (ap commands.Does c.in-Run.is) stops);
      rest = behind c.args.running.now c.begin_and_settle.new.running c.begin_and_settle.ensures.rest;
    }

pub take_turns-requires-clause-there : goal.take_turns-requires-clause-there
take_turns-requires-clause-there g c = below_more c.in-Turns.repo (length c.requires.may.context.repos) (length c.args.running.now.nodes) (stands_as c.requires.may.context c.args.action.now (actions.Turns c.in-Turns.repo c.in-Turns.turns) c.in-Turns.is c.requires.may.stands) c.requires.may.repos

pub take_turns-requires-clause-driven : goal.take_turns-requires-clause-driven
take_turns-requires-clause-driven g c = c.requires.driven

pub returns-in-Turns : goal.returns-in-Turns
returns-in-Turns g c =
    let tells : g.row.K.Denot → StoreView = λ k. store_view (g.K.Keeper.contents k) (g.K.Keeper.parts k) (g.K.Keeper.failing k) (g.K.Keeper.faults k) in
    let laws : CutLaws = record { cut = c.runs_are_cut_where_histories_are_full.ensures.cut; entries = c.runs_are_cut_where_histories_are_full.ensures.entries; marks = c.runs_are_cut_where_histories_are_full.ensures.marks; tree = c.runs_are_cut_where_histories_are_full.ensures.tree } in
    record {
      ok = on_ok c.take_turns.result _ _ c.take_turns.ensures.ok (λ goes. as_form tells (commands.Does c.args.action.now) (commands.Does (actions.Turns c.in-Turns.repo c.in-Turns.turns)) c.args.running.now c.take_turns.new.running (ap commands.Does c.in-Turns.is) goes);
      room = always_ok c.take_turns.result _ (room_unasked tells c.args.action.now (actions.Turns c.in-Turns.repo c.in-Turns.turns) c.args.running.now c.in-Turns.is c.requires.may.built refl);
      full = λ r e. form_ends tells laws r c.args.action.now (actions.Turns c.in-Turns.repo c.in-Turns.turns) c.args.running.now c.take_turns.new.running c.in-Turns.is refl (c.take_turns.ensures.full r e) c.take_turns.ensures.rest;
      stopped = on_err c.take_turns.result _ _ c.take_turns.ensures.stopped (λ stops. stops_as tells (commands.Does c.args.action.now) (commands.Does (actions.Turns c.in-Turns.repo c.in-Turns.turns)) c.args.running.now c.take_turns.new.running (ap commands.Does c.in-Turns.is) stops);
      rest = behind c.args.running.now c.take_turns.new.running c.take_turns.ensures.rest;
    }

pub settle-requires : goal.settle-requires
settle-requires g c = record { driven = c.requires.driven }

pub returns-in-Settle : goal.returns-in-Settle
returns-in-Settle g c =
    let tells : g.row.K.Denot → StoreView = λ k. store_view (g.K.Keeper.contents k) (g.K.Keeper.parts k) (g.K.Keeper.failing k) (g.K.Keeper.faults k) in
    let laws : CutLaws = record { cut = c.runs_are_cut_where_histories_are_full.ensures.cut; entries = c.runs_are_cut_where_histories_are_full.ensures.entries; marks = c.runs_are_cut_where_histories_are_full.ensures.marks; tree = c.runs_are_cut_where_histories_are_full.ensures.tree } in
    record {
      ok = on_ok c.settle.result _ _ c.settle.ensures.ok (λ goes. as_form tells (commands.Does c.args.action.now) (commands.Does actions.Settle) c.args.running.now c.settle.new.running (ap commands.Does c.in-Settle.is) goes);
      room = always_ok c.settle.result _ (room_unasked tells c.args.action.now actions.Settle c.args.running.now c.in-Settle.is c.requires.may.built refl);
      full = λ r e. form_ends tells laws r c.args.action.now actions.Settle c.args.running.now c.settle.new.running c.in-Settle.is refl (c.settle.ensures.full r e) c.settle.ensures.rest;
      stopped = on_err c.settle.result _ _ c.settle.ensures.stopped (λ stops. stops_as tells (commands.Does c.args.action.now) (commands.Does actions.Settle) c.args.running.now c.settle.new.running (ap commands.Does c.in-Settle.is) stops);
      rest = behind c.args.running.now c.settle.new.running c.settle.ensures.rest;
    }

pub close-requires-clause-there : goal.close-requires-clause-there
close-requires-clause-there g c = below_more c.in-Close.repo (length c.requires.may.context.repos) (length c.args.running.now.nodes) (stands_as c.requires.may.context c.args.action.now (actions.Close c.in-Close.repo c.in-Close.other) c.in-Close.is c.requires.may.stands).first c.requires.may.repos

pub close-requires-clause-other : goal.close-requires-clause-other
close-requires-clause-other g c = below_more c.in-Close.other (length c.requires.may.context.repos) (length c.args.running.now.nodes) (stands_as c.requires.may.context c.args.action.now (actions.Close c.in-Close.repo c.in-Close.other) c.in-Close.is c.requires.may.stands).second c.requires.may.repos

pub close-requires-clause-apart : goal.close-requires-clause-apart
close-requires-clause-apart g c = λ same. (stands_as c.requires.may.context c.args.action.now (actions.Close c.in-Close.repo c.in-Close.other) c.in-Close.is c.requires.may.stands).distinct (sym same)

pub close-requires-clause-driven : goal.close-requires-clause-driven
close-requires-clause-driven g c = c.requires.driven

pub returns-in-Close : goal.returns-in-Close
returns-in-Close g c =
    let tells : g.row.K.Denot → StoreView = λ k. store_view (g.K.Keeper.contents k) (g.K.Keeper.parts k) (g.K.Keeper.failing k) (g.K.Keeper.faults k) in
    let laws : CutLaws = record { cut = c.runs_are_cut_where_histories_are_full.ensures.cut; entries = c.runs_are_cut_where_histories_are_full.ensures.entries; marks = c.runs_are_cut_where_histories_are_full.ensures.marks; tree = c.runs_are_cut_where_histories_are_full.ensures.tree } in
    let form = commands.Does (actions.Close c.in-Close.repo c.in-Close.other) in
    record {
      ok = on_ok c.close.result _ _ c.close.ensures.ok (λ goes. as_form tells (commands.Does c.args.action.now) form c.args.running.now c.close.new.running (ap commands.Does c.in-Close.is) goes);
      room = on_ok c.close.result _ _ c.close.ensures.places (λ places. room_closed tells c.in-Close.repo c.in-Close.other c.args.action.now c.args.running.now c.in-Close.is places);
      full = λ r e. cut_as tells r (commands.Does c.args.action.now) form c.args.running.now c.close.new.running (ap commands.Does c.in-Close.is) (cuts_closed tells laws r c.in-Close.repo c.in-Close.other c.args.running.now c.close.new.running (c.close.ensures.full r e) c.close.ensures.rest);
      stopped = on_err c.close.result _ _ c.close.ensures.stopped (λ stops. stops_as tells (commands.Does c.args.action.now) form c.args.running.now c.close.new.running (ap commands.Does c.in-Close.is) stops);
      rest = behind c.args.running.now c.close.new.running c.close.ensures.rest;
    }

pub crash-requires-clause-there : goal.crash-requires-clause-there
crash-requires-clause-there g c = below_more c.in-Crash.repo (length c.requires.may.context.repos) (length c.args.running.now.nodes) (stands_as c.requires.may.context c.args.action.now (actions.Crash c.in-Crash.repo c.in-Crash.clock) c.in-Crash.is c.requires.may.stands).0 c.requires.may.repos

pub crash-requires-clause-near : goal.crash-requires-clause-near
crash-requires-clause-near g c = (stands_as c.requires.may.context c.args.action.now (actions.Crash c.in-Crash.repo c.in-Crash.clock) c.in-Crash.is c.requires.may.stands).1

pub crash-requires-clause-driven : goal.crash-requires-clause-driven
crash-requires-clause-driven g c = c.requires.driven

pub returns-in-Crash : goal.returns-in-Crash
returns-in-Crash g c =
    let tells : g.row.K.Denot → StoreView = λ k. store_view (g.K.Keeper.contents k) (g.K.Keeper.parts k) (g.K.Keeper.failing k) (g.K.Keeper.faults k) in
    let laws : CutLaws = record { cut = c.runs_are_cut_where_histories_are_full.ensures.cut; entries = c.runs_are_cut_where_histories_are_full.ensures.entries; marks = c.runs_are_cut_where_histories_are_full.ensures.marks; tree = c.runs_are_cut_where_histories_are_full.ensures.tree } in
    let action = actions.Crash c.in-Crash.repo c.in-Crash.clock in
    let form = commands.Does action in
    record {
      ok = on_ok c.crash.result _ _ c.crash.ensures.ok (λ goes. as_form tells (commands.Does c.args.action.now) form c.args.running.now c.crash.new.running (ap commands.Does c.in-Crash.is) goes);
      room = always_ok c.crash.result _ (room_unasked tells c.args.action.now action c.args.running.now c.in-Crash.is c.requires.may.built refl);
      full = λ r e. form_ends tells laws r c.args.action.now action c.args.running.now c.crash.new.running c.in-Crash.is refl (c.crash.ensures.full r e) c.crash.ensures.rest;
      stopped = on_err c.crash.result _ _ c.crash.ensures.stopped (λ stops. stops_as tells (commands.Does c.args.action.now) form c.args.running.now c.crash.new.running (ap commands.Does c.in-Crash.is) stops);
      rest = behind c.args.running.now c.crash.new.running c.crash.ensures.rest;
    }

pub wait-requires-clause-driven : goal.wait-requires-clause-driven
wait-requires-clause-driven g c = c.requires.driven

pub wait-requires-clause-early : goal.wait-requires-clause-early
wait-requires-clause-early g c = subst (λ t. t + c.in-Wait.milliseconds ≤ 1000000000000) c.requires.may.waited (in_time c.requires.may.context.waited c.in-Wait.milliseconds (within_as c.requires.may.context c.args.action.now (actions.Wait c.in-Wait.milliseconds) c.in-Wait.is c.requires.may.within))

pub returns-in-Wait : goal.returns-in-Wait
returns-in-Wait g c =
    let tells : g.row.K.Denot → StoreView = λ k. store_view (g.K.Keeper.contents k) (g.K.Keeper.parts k) (g.K.Keeper.failing k) (g.K.Keeper.faults k) in
    record {
      ok = on_ok c.wait.result _ _ c.wait.ensures.ok (λ goes. as_form tells (commands.Does c.args.action.now) (commands.Does (actions.Wait c.in-Wait.milliseconds)) c.args.running.now c.wait.new.running (ap commands.Does c.in-Wait.is) goes);
      room = always_ok c.wait.result _ (room_unasked tells c.args.action.now (actions.Wait c.in-Wait.milliseconds) c.args.running.now c.in-Wait.is c.requires.may.built refl);
      full = λ r e. absurd (c.wait.ensures.full r e);
      stopped = on_err c.wait.result _ _ c.wait.ensures.stopped (λ stops. stops_as tells (commands.Does c.args.action.now) (commands.Does (actions.Wait c.in-Wait.milliseconds)) c.args.running.now c.wait.new.running (ap commands.Does c.in-Wait.is) stops);
      rest = behind c.args.running.now c.wait.new.running c.wait.ensures.rest;
    }

pub fail_next-requires-clause-there : goal.fail_next-requires-clause-there
fail_next-requires-clause-there g c = below_more c.in-Fail.repo (length c.requires.may.context.repos) (length c.args.running.now.nodes) (stands_as c.requires.may.context c.args.action.now (actions.Fail c.in-Fail.repo c.in-Fail.call) c.in-Fail.is c.requires.may.stands) c.requires.may.repos

pub fail_next-requires-clause-driven : goal.fail_next-requires-clause-driven
fail_next-requires-clause-driven g c = c.requires.driven

pub returns-in-Fail : goal.returns-in-Fail
returns-in-Fail g c =
    let tells : g.row.K.Denot → StoreView = λ k. store_view (g.K.Keeper.contents k) (g.K.Keeper.parts k) (g.K.Keeper.failing k) (g.K.Keeper.faults k) in
    record {
      ok = on_ok c.fail_next.result _ _ c.fail_next.ensures.ok (λ goes. as_form tells (commands.Does c.args.action.now) (commands.Does (actions.Fail c.in-Fail.repo c.in-Fail.call)) c.args.running.now c.fail_next.new.running (ap commands.Does c.in-Fail.is) goes);
      room = always_ok c.fail_next.result _ (room_unasked tells c.args.action.now (actions.Fail c.in-Fail.repo c.in-Fail.call) c.args.running.now c.in-Fail.is c.requires.may.built refl);
      full = λ r e. absurd (c.fail_next.ensures.full r e);
      stopped = on_err c.fail_next.result _ _ c.fail_next.ensures.stopped (λ stops. stops_as tells (commands.Does c.args.action.now) (commands.Does (actions.Fail c.in-Fail.repo c.in-Fail.call)) c.args.running.now c.fail_next.new.running (ap commands.Does c.in-Fail.is) stops);
      rest = behind c.args.running.now c.fail_next.new.running c.fail_next.ensures.rest;
    }
