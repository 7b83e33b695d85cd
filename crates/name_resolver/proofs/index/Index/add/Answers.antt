use Rattle.std.proofs.Common.{sym, ◌∙◌, ap, is_some, not}
use Rattle.name_resolver.proofs.Rows.{add-new}
use Rattle.name_resolver.proofs.index.Index.add.Goals as goal

pub returns-in_ok-insert : goal.returns-in_ok-insert
returns-in_ok-insert c =
    add-new c.args.key.now c.args.number c.in_ok-from_slice.field-0 c.self.inside.rows.entries c.insert.new.self.entries c.args.self.now
    c.self.view_is c.in_ok-from_slice.ensures.items c.in_ok-insert.ensures.entries (sym (ap is_some c.find.ensures) ∙ c.is_none.ensures ∙ ap not c.if-is_none.true)
