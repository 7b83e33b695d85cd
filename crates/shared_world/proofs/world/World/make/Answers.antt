use Rattle.std.proofs.Common.{◌≡◌, ◌<◌, true, None, length, sym, ap, subst, ◌∙◌, arith}
use Rattle.machine_model.specs.Declarations.{Declarations}
use Rattle.machine_model.specs.Operations.{fits_reply, is_enabled}
use Rattle.shared_world.specs.Fitting.{FirstValuesFit}
use Rattle.shared_world.specs.Worlds.{WorldState}
use Rattle.shared_world.proofs.Legal.{IsLegalHistory-more, IsKept-more_history, ValuesFit-more, fits_reply-more}
use Rattle.shared_world.proofs.world.World.make.Goals as goal

pub invariant_of-self : goal.invariant_of-self
invariant_of-self c =
    let running : c.self.inside.shared.fault ≡ None = ap (λ (w : WorldState). w.shared.fault) c.self.view_is ∙ c.requires.running in
    let room : length c.self.inside.history.items < c.self.inside.budget = subst (λ (w : WorldState). length w.history < w.budget) (sym c.self.view_is) c.requires.room in
    let enabled : is_enabled c.self.inside.start c.self.inside.shared c.args.thread c.args.op ≡ true = subst (λ (w : WorldState). is_enabled w.declarations w.shared c.args.thread c.args.op ≡ true) (sym c.self.view_is) c.requires.enabled in
    let items = c.push_reserved.ensures.items in
    record {
      legal = IsLegalHistory-more c.self.inside.start c.self.inside.history.items c.self.inside.shared c.args.thread c.args.op c.in-Ok.reply c.apply.new.self c.push_reserved.new.self.items c.self.invariant.legal running enabled c.in-Ok.ensures.ok items;
      kept = IsKept-more_history c.self.inside.start c.self.inside.history.items c.self.inside.shared c.args.thread c.args.op c.in-Ok.reply c.apply.new.self c.push_reserved.new.self.items c.self.invariant.kept enabled c.in-Ok.ensures.ok items;
      fit = λ first. ValuesFit-more c.self.inside.start c.self.inside.shared c.args.thread c.args.op c.in-Ok.reply c.apply.new.self (c.self.invariant.fit first) enabled c.in-Ok.ensures.ok;
      budget = c.self.invariant.budget;
      within = omega (arith, c.push_reserved.ensures.len, room);
      room = omega (arith, c.push_reserved.ensures.capacity, c.self.invariant.room);
    }

pub returns-in-Ok-clause-legal : goal.returns-in-Ok-clause-legal
returns-in-Ok-clause-legal c =
    let running : c.self.inside.shared.fault ≡ None = ap (λ (w : WorldState). w.shared.fault) c.self.view_is ∙ c.requires.running in
    let enabled : is_enabled c.self.inside.start c.self.inside.shared c.args.thread c.args.op ≡ true = subst (λ (w : WorldState). is_enabled w.declarations w.shared c.args.thread c.args.op ≡ true) (sym c.self.view_is) c.requires.enabled in
    IsLegalHistory-more c.self.inside.start c.self.inside.history.items c.self.inside.shared c.args.thread c.args.op c.in-Ok.reply c.apply.new.self c.push_reserved.new.self.items c.self.invariant.legal running enabled c.in-Ok.ensures.ok c.push_reserved.ensures.items

pub returns-in-Ok-clause-fits : goal.returns-in-Ok-clause-fits
returns-in-Ok-clause-fits c =
    let enabled : is_enabled c.self.inside.start c.self.inside.shared c.args.thread c.args.op ≡ true = subst (λ (w : WorldState). is_enabled w.declarations w.shared c.args.thread c.args.op ≡ true) (sym c.self.view_is) c.requires.enabled in
    let same : c.self.inside.start ≡ c.args.self.now.declarations = ap (λ (w : WorldState). w.declarations) c.self.view_is in
    subst (λ (d : Declarations). FirstValuesFit d → fits_reply d c.args.op c.in-Ok.reply ≡ true) same (λ first. fits_reply-more c.self.inside.start c.self.inside.shared c.args.thread c.args.op c.in-Ok.reply c.apply.new.self (c.self.invariant.fit first) enabled c.in-Ok.ensures.ok)
