use Rattle.std.proofs.Common.{◌≡◌, None, sym, Some, get_or, slice_get}
use Rattle.std.proofs.lemmas.Option.{slice_get-get_or}
use Rattle.vm_model.specs.declared.op.Entry.{Entry}
use Rattle.vm_model.specs.declared.op.Op.TheVariants as op
use Rattle.vm_model.specs.declared.op.Reply.TheVariants as reply
use Rattle.race_report.specs.Races.{place_of}
use Rattle.race_report.proofs.PlacesKept.{untouched_place}
use Rattle.race_report.proofs.Racing.{stays_otherwise}
use Rattle.race_report.proofs.detection.note_entry.Goals as goal

abbrev any : Entry
any = record { thread = 0; op = op.GetStatic 0; reply = reply.Unit }

pub returns-in-None : goal.returns-in-None
returns-in-None c =
    let at : slice_get c.args.history.now c.args.position ≡ Some (get_or c.args.history.now c.args.position any) = slice_get-get_or _ _ _ c.requires.within in
    let none : place_of (get_or c.args.history.now c.args.position any).op ≡ None = sym c.in-None.ensures.place in
    record {
      kept = record {
        report = stays_otherwise _ _ _ _ at none c.requires.kept.report;
        kept = λ q. untouched_place _ _ _ q _ _ at none (c.requires.kept.kept q);
      };
    }
