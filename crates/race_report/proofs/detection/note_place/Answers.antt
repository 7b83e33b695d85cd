use Rattle.std.proofs.Common.{◌≡◌, subst, Some, get_or, slice_get}
use Rattle.std.proofs.lemmas.Option.{slice_get-get_or}
use Rattle.std.specs.HashMap.{get}
use Rattle.vm_model.specs.declared.op.Entry.{Entry}
use Rattle.vm_model.specs.declared.op.Op.TheVariants as op
use Rattle.vm_model.specs.declared.op.Reply.TheVariants as reply
use Rattle.race_report.specs.Accesses.{is_place}
use Rattle.race_report.specs.Accesses.{IsMarked}
use Rattle.race_report.proofs.PlacesKept.{places_more}
use Rattle.race_report.proofs.detection.note_place.Goals as goal

abbrev any : Entry
any = record { thread = 0; op = op.GetStatic 0; reply = reply.Unit }

pub returns : goal.returns
returns c =
    let at : slice_get c.args.history.now c.args.position ≡ Some (get_or c.args.history.now c.args.position any) = slice_get-get_or _ _ _ c.requires.within in
    record {
      kept = record {
        report = c.in_ok-reported.ensures.report;
        kept = places_more c.args.history.now c.args.position (get_or c.args.history.now c.args.position any) c.args.place _ _ (get is_place c.args.places.now) (get is_place c.insert.new.self) _ _ _ at (c.requires.place _ at) c.requires.kept.kept c.accesses_of-last.ensures.accesses
            c.in_ok-reported.ensures.reported c.in_ok-reported.ensures.others c.marked-now.ensures.accesses
            (subst (λ b. IsMarked c.accesses_of-last.result.writes (get_or c.args.history.now c.args.position any).thread c.args.position b c.marked-now.result.writes) c.is_write.ensures.write c.marked-now.ensures.writes)
            c.marked-now.ensures.reported c.in_ok-insert.ensures.updates.0;
      };
    }
