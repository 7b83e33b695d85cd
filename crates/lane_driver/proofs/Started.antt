-- Each thread of a legal history but the first was started in it.
use Rattle.std.proofs.Common.{◌≡◌, ◌≢◌, ℕ, zero, suc, ◌+◌, ◌<◌, ◌≤◌, Bool, true, false, cond, List, [], ◌∷◌, length, Option, Some, None, refl, arith, ap, sym, ◌∙◌, subst}
use Rattle.std.specs.Prelude.{◌==◌, All, IsSome, is_some}
use Rattle.std.specs.List.{AllByRecursion}
use Rattle.std.proofs.lemmas.List.Elements.{All-from_recursion}
use Rattle.vm_model.specs.declared.value.ObjRef.{ObjRef}
use Rattle.vm_model.specs.declared.op.Entry.{Entry}
use Rattle.vm_model.specs.declared.op.Op.{Op}
use Rattle.vm_model.specs.declared.op.Op.TheVariants as op
use Rattle.vm_model.specs.declared.op.Reply.{Reply}
use Rattle.vm_model.specs.declared.op.Reply.TheVariants as reply
use Rattle.vm_model.specs.Program.{PlainProgram}
use Rattle.machine_model.specs.Declarations.{Declarations}
use Rattle.machine_model.specs.Machine.{begun, threads_of}
use Rattle.machine_model.specs.Operations.{LeadsTo, IsLegalHistory, apply}
use Rattle.machine_model.specs.Shared.{SharedState, start}
use Rattle.projection_laws.specs.Projections.{target_by, target_in, target_or}
use Rattle.projection_laws.proofs.Places.{equal, same_self, unequal}
use Rattle.projection_laws.proofs.Rows.{apply_adds, apply_next, enabled_within, rows_grow}

-- what an event adds is the same for every program
any_program : PlainProgram
any_program = record { classes = []; methods = []; statics = []; texts = []; main = 0 }

abbrev pub IsThere : Option ObjRef → Type 0
IsThere None = ⊥
IsThere (Some target) = Unit {0}

or_first : (x y : Option ObjRef) → IsThere x → IsThere (target_or x y)
or_first None y there = absurd there
or_first (Some target) y there = tt

or_second : (x y : Option ObjRef) → IsThere y → IsThere (target_or x y)
or_second None y there = there
or_second (Some target) y there = tt

-- the operation starts this very thread, if it starts one
starts_one : (p : PlainProgram) (o : Op) (r : Reply) (n : ℕ) → ((target : ObjRef) (u : ℕ) → o ≡ op.Start target → r ≡ reply.Began u → u ≡ n) → 0 < length (begun p o r) → IsThere (target_by o r n)
starts_one p (op.Start target) (reply.Began u) n next some =
    subst (λ (m : ℕ). IsThere (cond (m == n) (Some target) None)) (sym (next target u refl refl)) (subst (λ (b : Bool). IsThere (cond b (Some target) None)) (sym (same_self n)) tt)
starts_one p (op.Start target) reply.Unit n next some = absurd (omega (arith, some))
starts_one p (op.Start target) (reply.Got v) n next some = absurd (omega (arith, some))
starts_one p (op.Start target) (reply.Made v) n next some = absurd (omega (arith, some))
starts_one p (op.Start target) (reply.Waits count) n next some = absurd (omega (arith, some))
starts_one p (op.Start target) (reply.Raise kind) n next some = absurd (omega (arith, some))
starts_one p _ r n next some = absurd (omega (arith, some))

one_at_most : (p : PlainProgram) (o : Op) (r : Reply) → length (begun p o r) ≤ 1
one_at_most p (op.Start target) (reply.Began u) = omega arith
one_at_most p (op.Start target) reply.Unit = omega arith
one_at_most p (op.Start target) (reply.Got v) = omega arith
one_at_most p (op.Start target) (reply.Made v) = omega arith
one_at_most p (op.Start target) (reply.Waits count) = omega arith
one_at_most p (op.Start target) (reply.Raise kind) = omega arith
one_at_most p _ r = omega arith

started_from : (p : PlainProgram) (d : Declarations) (s end : SharedState) (h : List Entry) (t : ℕ) → LeadsTo d s h end → length s.rows ≤ t → t < length end.rows → IsThere (target_in h t)
started_from p d s end [] t leads low high = let same : length s.rows ≡ length end.rows = ap (λ (x : SharedState). length x.rows) leads in absurd (omega (arith, low, high, same))
started_from p d s end (e ∷ es) t leads low high = by (t == length s.rows) refl (λ more. started_from p d (apply d s e.thread e.op).world end es t leads.3 more high)
  where
    adds : length (apply d s e.thread e.op).world.rows ≡ length s.rows + length (begun p e.op e.reply)
    adds = subst (λ (r : Reply). length (apply d s e.thread e.op).world.rows ≡ length s.rows + length (begun p e.op r)) leads.2 (apply_adds p d s e.thread e.op)

    next : (target : ObjRef) (u : ℕ) → e.op ≡ op.Start target → e.reply ≡ reply.Began u → u ≡ length s.rows
    next target u is began = apply_next p d s e.thread target u (subst (λ (o : Op). (apply d s e.thread o).reply ≡ e.reply) is leads.2 ∙ began)

    here : (b : Bool) → (begun p e.op e.reply ≡ begun p e.op e.reply) → (0 < length (begun p e.op e.reply)) → t ≡ length s.rows → IsThere (target_in (e ∷ es) t)
    here b same some is = or_first (target_by e.op e.reply t) (target_in es t) (subst (λ (n : ℕ). IsThere (target_by e.op e.reply n)) (sym is) (starts_one p e.op e.reply (length s.rows) next some))

    by_some : (k : ℕ) → length (begun p e.op e.reply) ≡ k → t ≡ length s.rows → (length (apply d s e.thread e.op).world.rows ≤ t → IsThere (target_in es t)) → IsThere (target_in (e ∷ es) t)
    by_some zero none is more = or_second (target_by e.op e.reply t) (target_in es t) (more (omega (arith, adds, none, is)))
    by_some (suc k) some is more = here true refl (omega (arith, some)) is

    by : (b : Bool) → (t == length s.rows) ≡ b → (length (apply d s e.thread e.op).world.rows ≤ t → IsThere (target_in es t)) → IsThere (target_in (e ∷ es) t)
    by true same more = by_some (length (begun p e.op e.reply)) refl (equal t (length s.rows) same) more
    by false other more =
        let apart = unequal t (length s.rows) other in
        or_second (target_by e.op e.reply t) (target_in es t) (more (omega (arith, adds, low, apart, one_at_most p e.op e.reply)))

pub started : (p : PlainProgram) (d : Declarations) (h : List Entry) (s : SharedState) (t : ℕ) → IsLegalHistory d h s → t ≢ 0 → t < length s.rows → IsThere (target_in h t)
started p d h s t legal other low = started_from p d (start d) s h t legal (omega (arith, other)) low

some_there : (x y : Option ObjRef) → x ≡ y → IsThere y → IsSome x
some_there x None e there = absurd there
some_there x (Some target) e there = ap is_some e

pub started_some : (d : Declarations) (h : List Entry) (s : SharedState) (t : ℕ) (x : Option ObjRef) → IsLegalHistory d h s → x ≡ target_in h t → t ≢ 0 → t < length s.rows → IsSome x
started_some d h s t x legal is other low = some_there x (target_in h t) is (started any_program d h s t legal other low)

-- ---- each event is of a started thread

low_threads : (p : PlainProgram) (d : Declarations) (s end : SharedState) (h : List Entry) → LeadsTo d s h end → AllByRecursion (λ (t : ℕ). t < length end.rows) (threads_of h)
low_threads p d s end [] leads = tt
low_threads p d s end (e ∷ es) leads = (
  omega (arith, enabled_within d s e.thread e.op leads.1, rows_grow p d s end (e ∷ es) leads),
  low_threads p d (apply d s e.thread e.op).world end es leads.3,
)

pub legal_threads : (d : Declarations) (h : List Entry) (s : SharedState) → IsLegalHistory d h s → All (λ t. t < length s.rows) (threads_of h)
legal_threads d h s legal = All-from_recursion (λ t. t < length s.rows) (threads_of h) (low_threads any_program d (start d) s h legal)
