-- Seats that are split, joined, and left at the end.
use Rattle.std.proofs.Common.{None, ◌≡◌, ◌≢◌, ⊎_elim, ℕ, ◌<◌, ◌≤◌, eqb, nat_lt, Bool, true, false, if◌then◌else◌, List, [], ◌∷◌, ◌++◌, length, set, refl, sym, ap, ◌∙◌, subst, arith, Option, Some, length-set, length-append, eq-eqb, ne_eqb, ltb-true, ltb-false}
use mathlib.Core.Logic.{dite}
use mathlib.Core.Option.{none, some, some-injective}
use native.Mathlib.Decide.{ℕ_discrete}
use lib.ListN.{get_elem?}
use Rattle.vm_model.specs.declared.op.Entry.{Entry}
use Rattle.shared_world.specs.Worlds.{WorldState}
use Rattle.atomic_table.specs.Table.{Splits, Joins, Final, Seen, Allows, step, keeps}
use Rattle.atomic_table.proofs.Lists.{set_else, at_longer}
use Rattle.record_gate.specs.declared.rule.RecordView.{RecordView}
use Rattle.record_gate.specs.declared.rule.Setup.{Setup}
use Rattle.record_gate.specs.Lanes.{has, HasNone}
use Rattle.record_gate.specs.Rule.{IsKept, KnowsAs, Has, world_of}
use Rattle.record_gate.specs.Seats.{IsTold}
use Rattle.record_gate.specs.Calls.{HasAll}
use Rattle.record_gate.specs.Steps.{Finds, Extends, united}
use Rattle.record_gate.specs.Views.{giver, given, both, spent, longer, merged}
use Rattle.record_gate.proofs.Lists.{at_snoc, no, clash, false_unless, or_true, has_only, has_without, has_both, has_front, none_behind, none_front, none_of, with_nothing}
use Rattle.record_gate.proofs.Moves.{M, word, seats_stay, holder_stays, unmoved, has_by}

none_both : (n : ℕ) (xs ys : List ℕ) (es : List Entry) → HasNone n xs es → HasNone n ys es → HasNone n (xs ++ ys) es
none_both n xs ys [] a b = tt
none_both n xs ys (e ∷ es) a b = (false_unless _ (λ is. ⊎_elim (λ t. clash _ a.0 t) (λ t. clash _ b.0 t) (has_both xs ys _ is)), none_both n xs ys es a.1 b.1)

-- ---- split

-- lane l goes to the seat n
abbrev moved : (ℕ → ℕ) → ℕ → ℕ → ℕ → ℕ
moved owner l n m = if eqb m l then n else owner m

moved_here : (owner : ℕ → ℕ) (l n m : ℕ) → m ≡ l → moved owner l n m ≡ n
moved_here owner l n m is = subst (λ b. (if b then n else owner m) ≡ n) (sym (eq-eqb m l is)) refl

moved_else : (owner : ℕ → ℕ) (l n m : ℕ) → m ≢ l → moved owner l n m ≡ owner m
moved_else owner l n m not = subst (λ b. (if b then n else owner m) ≡ owner m) (sym (ne_eqb m l not)) refl

-- a seat with no lanes has all their entries
has_nothing : (n : ℕ) (owner : ℕ → ℕ) (h : List Entry) (seat : ℕ) → Has n owner h seat [] []
has_nothing n owner h seat = record { more = h; begins = refl; others = none_in n h; owns = λ l is. absurd (no is) }
  where
    none_in : (n : ℕ) (es : List Entry) → HasNone n [] es
    none_in n [] = tt
    none_in n (e ∷ es) = (refl, none_in n es)

pub split_keeps : (k : Setup) (id : ℕ) (v : RecordView) → has v.spare v.giving ≡ true → Splits (IsKept k) id v (giver v) (given v)
split_keeps k id v may s r at =
    let known = r.each_seat id v at in
    let n : ℕ = length s.views in
    let owner : ℕ → ℕ = moved r.owner v.giving n in
    let given_of : r.owner v.giving ≡ id = known.gives v.giving may in
    let not_given : (lanes : List ℕ) → ((l : ℕ) → has lanes l ≡ true → has v.spare l ≡ false) → (l : ℕ) → has lanes l ≡ true → r.owner l ≡ id → owner l ≡ id = λ lanes apart l h is.
    moved_else r.owner v.giving n l (λ same. clash (has v.spare l) (apart l h) (subst (λ (z : ℕ). has v.spare z ≡ true) (sym same) may)) ∙ is in
    let mine : KnowsAs (word s) r.holder k.lanes owner r.history id (giver v) = record {
      mine = has_by k.lanes r.owner owner r.history id id v.lanes v.seen (not_given v.lanes known.apart) known.mine;
      hears = has_by k.lanes r.owner owner r.history id id v.heard_lanes v.heard (not_given v.heard_lanes known.apart_heard) known.hears;
      unused = none_of k.lanes v.spare (giver v).spare r.history (λ m h. (has_without v.giving v.spare m h).0) known.unused;
      gives = λ l h. let t = has_without v.giving v.spare l h in moved_else r.owner v.giving n l t.1 ∙ known.gives l t.0;
      apart = λ l h. false_unless (has (giver v).spare l) (λ is. clash (has v.spare l) (known.apart l h) (has_without v.giving v.spare l is).0);
      apart_heard = λ l h. false_unless (has (giver v).spare l) (λ is. clash (has v.spare l) (known.apart_heard l h) (has_without v.giving v.spare l is).0);
      not_ahead = known.not_ahead;
      holding = known.holding;
    } in
    let not_of : (j : ℕ) → j ≢ id → (l : ℕ) → r.owner l ≡ j → owner l ≡ j = λ j other l of. moved_else r.owner v.giving n l (λ is. other (sym of ∙ (ap r.owner is ∙ given_of))) ∙ of in
    let others : (j : ℕ) (u : RecordView) → j ≢ id → get_elem? s.views j ≡ some u → KnowsAs (word s) r.holder k.lanes owner r.history j u = λ j u other there. let it = r.each_seat j u there in record {
      mine = has_by k.lanes r.owner owner r.history j j u.lanes u.seen (λ l h. not_of j other l) it.mine;
      hears = has_by k.lanes r.owner owner r.history j j u.heard_lanes u.heard (λ l h. not_of j other l) it.hears;
      unused = it.unused;
      gives = λ l h. not_of j other l (it.gives l h);
      apart = it.apart;
      apart_heard = it.apart_heard;
      not_ahead = it.not_ahead;
      holding = it.holding;
    } in
    let behind : HasNone k.lanes v.spare known.mine.more = none_behind k.lanes v.spare v.seen known.mine.more (subst (HasNone k.lanes v.spare) known.mine.begins known.unused) in
    let new : KnowsAs (word s) r.holder k.lanes owner r.history n (given v) = record {
      mine = record {
        more = known.mine.more;
        begins = known.mine.begins;
        others = none_of k.lanes v.spare (given v).lanes known.mine.more (λ m h. subst (λ (z : ℕ). has v.spare z ≡ true) (sym (has_only v.giving m h)) may) behind;
        owns = λ l h. moved_here r.owner v.giving n l (has_only v.giving l h);
      };
      hears = has_nothing k.lanes owner r.history n;
      unused = none_of k.lanes v.spare [] r.history (λ m h. absurd (no h)) known.unused;
      gives = λ l h. absurd (no h);
      apart = λ l h. refl;
      apart_heard = λ l h. refl;
      not_ahead = known.not_ahead;
      holding = λ h. absurd (no h);
    } in
    record {
      history = r.history;
      shared = r.shared;
      legal = r.legal;
      within = r.within;
      limit = r.limit;
      two_words = r.two_words;
      clock = r.clock;
      holder = r.holder;
      owner = owner;
      free = r.free;
      taken = λ busy. let t = r.taken busy in let u = holder_stays s.views id r.holder v (giver v) at refl t.1 in (t.0, (u.0, at_longer (set s.views id (giver v)) (given v ∷ []) r.holder u.0 u.1, u.2));
      each_seat = λ j u there. ⊎_elim (λ old. seats_stay (KnowsAs (word s) r.holder k.lanes owner r.history) s.views id (giver v) mine others j u old)
          (λ (t : (j ≡ length (set s.views id (giver v))) × (given v ≡ u)). subst (λ (x : ℕ × RecordView). KnowsAs (word s) r.holder k.lanes owner r.history x.0 x.1) (λ i. (sym (t.0 ∙ length-set s.views id (giver v)) i, t.1 i)) new)
          (at_snoc (set s.views id (giver v)) (given v) u j there);
    }

-- ---- join

pub join_keeps : (k : Setup) (id : ℕ) (v : RecordView) (other : ℕ) (w : RecordView) → v.holds ≡ false → w.holds ≡ false → Joins (IsKept k) id v other w (both v w) spent
join_keeps k id v other w idle idle' s r at apart there =
    let at' : get_elem? s.views other ≡ some w = sym (set_else s.views id other (both v w) apart) ∙ there in
    let kv = r.each_seat id v at in
    let kw = r.each_seat other w at' in
    let owner : ℕ → ℕ = λ l. if eqb (r.owner l) other then id else r.owner l in
    let to_id : (l : ℕ) → r.owner l ≡ other → owner l ≡ id = λ l is. subst (λ b. (if b then id else r.owner l) ≡ id) (sym (eq-eqb (r.owner l) other is)) refl in
    let stays : (l : ℕ) → r.owner l ≢ other → owner l ≡ r.owner l = λ l not. subst (λ b. (if b then id else r.owner l) ≡ r.owner l) (sym (ne_eqb (r.owner l) other not)) refl in
    let mine_stays : (l : ℕ) → r.owner l ≡ id → owner l ≡ id = λ l is. stays l (λ e. apart (sym e ∙ is)) ∙ is in
    let mine : KnowsAs (word s) r.holder k.lanes owner r.history id (both v w) = record {
      mine = has_by k.lanes r.owner owner r.history id id v.lanes v.seen (λ l h. mine_stays l) kv.mine;
      hears = has_by k.lanes r.owner owner r.history other id w.lanes w.seen (λ l h. to_id l) kw.mine;
      unused = none_both k.lanes v.spare w.spare r.history kv.unused kw.unused;
      gives = λ l h. ⊎_elim (λ a. mine_stays l (kv.gives l a)) (λ b. to_id l (kw.gives l b)) (has_both v.spare w.spare l h);
      apart = λ l h. false_unless _ (λ is. ⊎_elim (λ c. clash _ (kv.apart l h) c) (λ d. apart (sym (kw.gives l d) ∙ kv.mine.owns l h)) (has_both v.spare w.spare l is));
      apart_heard = λ l h. false_unless _ (λ is. ⊎_elim (λ c. apart (sym (kw.mine.owns l h) ∙ kv.gives l c)) (λ d. clash _ (kw.apart l h) d) (has_both v.spare w.spare l is));
      not_ahead = kv.not_ahead;
      holding = λ h. absurd (no (sym idle ∙ h));
    } in
    let of_others : (j : ℕ) → j ≢ other → (l : ℕ) → r.owner l ≡ j → owner l ≡ j = λ j not l of. stays l (λ e. not (sym of ∙ e)) ∙ of in
    let others : (j : ℕ) (u : RecordView) → j ≢ id → get_elem? s.views j ≡ some u → j ≢ other → KnowsAs (word s) r.holder k.lanes owner r.history j u = λ j u not_id at_j not_other. let it = r.each_seat j u at_j in record {
      mine = has_by k.lanes r.owner owner r.history j j u.lanes u.seen (λ l h. of_others j not_other l) it.mine;
      hears = has_by k.lanes r.owner owner r.history j j u.heard_lanes u.heard (λ l h. of_others j not_other l) it.hears;
      unused = it.unused;
      gives = λ l h. of_others j not_other l (it.gives l h);
      apart = it.apart;
      apart_heard = it.apart_heard;
      not_ahead = it.not_ahead;
      holding = it.holding;
    } in
    let gone : KnowsAs (word s) r.holder k.lanes owner r.history other spent = record {
      mine = has_nothing k.lanes owner r.history other;
      hears = has_nothing k.lanes owner r.history other;
      unused = none_of k.lanes w.spare [] r.history (λ m h. absurd (no h)) kw.unused;
      gives = λ l h. absurd (no h);
      apart = λ l h. absurd (no h);
      apart_heard = λ l h. absurd (no h);
      not_ahead = omega arith;
      holding = λ h. absurd (no h);
    } in
    record {
      history = r.history;
      shared = r.shared;
      legal = r.legal;
      within = r.within;
      limit = r.limit;
      two_words = r.two_words;
      clock = r.clock;
      holder = r.holder;
      owner = owner;
      free = r.free;
      taken = λ busy. let t = r.taken busy in (t.0, holder_stays (set s.views id (both v w)) other r.holder w spent there (sym idle') (holder_stays s.views id r.holder v (both v w) at refl t.1));
      each_seat = seats_stay (KnowsAs (word s) r.holder k.lanes owner r.history) (set s.views id (both v w)) other spent gone
          (λ j u not_other at_j. seats_stay (λ j u. j ≢ other → KnowsAs (word s) r.holder k.lanes owner r.history j u) s.views id (both v w) (λ _. mine) others j u at_j not_other);
    }

-- ---- two seats become one

-- the tail of a list, or the other list
abbrev behind_first : {A : Type 0} → List A → List A → List A
behind_first d [] = d
behind_first d (x ∷ xs) = xs

abbrev first_or : {A : Type 0} → A → List A → A
first_or d [] = d
first_or d (x ∷ xs) = x

-- of two beginnings of a list, the longer one begins with the shorter
reach : {A : Type 0} (xs ms ys ns : List A) → xs ++ ms ≡ ys ++ ns → length xs ≤ length ys → (mid : List A) × (ys ≡ xs ++ mid) × (ms ≡ mid ++ ns)
reach [] ms ys ns e h = (ys, refl, e)
reach (x ∷ xs) ms [] ns e h = absurd (omega arith)
reach (x ∷ xs) ms (y ∷ ys) ns e h =
    let t = reach xs ms ys ns (ap (behind_first ms) e) (omega arith) in
    let head : y ≡ x = sym (ap (first_or x) e) in
    (t.0, (λ i. head i ∷ t.1 i), t.2)

abbrev longest : Bool → List Entry → List Entry → List Entry
longest b xs ys = if b then ys else xs

-- the longer of two beginnings: it extends both, and has all entries of both
record Reaches (n : ℕ) (h : List Entry) (lanes lanes' : List ℕ) (xs ys zs : List Entry) : Type 0 where
  mine : Extends n lanes xs zs
  heard : Extends n lanes' ys zs
  more : List Entry
  begins : h ≡ zs ++ more
  others : HasNone n (lanes ++ lanes') more

reaches : (n : ℕ) (owner : ℕ → ℕ) (h : List Entry) (seat : ℕ) (lanes lanes' : List ℕ) (xs ys : List Entry) (a : Has n owner h seat lanes xs) (c : Has n owner h seat lanes' ys) (b : Bool) → nat_lt (length xs) (length ys) ≡ b
    → Reaches n h lanes lanes' xs ys (longest b xs ys)
reaches n owner h seat lanes lanes' xs ys a c true is =
    let t = reach xs a.more ys c.more (sym a.begins ∙ c.begins) (omega (arith, ltb-true (length xs) (length ys) is)) in
    let none : HasNone n lanes (t.0 ++ c.more) = subst (HasNone n lanes) t.2 a.others in
    record {
      mine = record { more = t.0; is = t.1; others = none_front n lanes t.0 c.more none };
      heard = record { more = []; is = with_nothing ys; others = tt };
      more = c.more;
      begins = c.begins;
      others = none_both n lanes lanes' c.more (none_behind n lanes t.0 c.more none) c.others;
    }
reaches n owner h seat lanes lanes' xs ys a c false is =
    let t = reach ys c.more xs a.more (sym c.begins ∙ a.begins) (omega (arith, ltb-false (length xs) (length ys) is)) in
    let none : HasNone n lanes' (t.0 ++ a.more) = subst (HasNone n lanes') t.2 c.others in
    record {
      mine = record { more = []; is = with_nothing xs; others = tt };
      heard = record { more = t.0; is = t.1; others = none_front n lanes' t.0 a.more none };
      more = a.more;
      begins = a.begins;
      others = none_both n lanes lanes' a.more a.others (none_behind n lanes' t.0 a.more none);
    }

pub merges : (k : Setup) (slots id : ℕ) (me : M) → IsTold k me.0 → Allows (IsKept k) slots id me 0 (λ n. n) (united (step slots 0 0 0 none) me)
merges k slots id me told s r sized at small =
    let v = me.0 in
    let known = r.each_seat id v at in
    let x = reaches k.lanes r.owner r.history id v.lanes v.heard_lanes v.seen v.heard known.mine known.hears (nat_lt (length v.seen) (length v.heard)) refl in (
      merged v,
      keeps,
      tt,
      unmoved k s r 0 id me.1 v (merged v) at refl (record {
        mine = record { more = x.more; begins = x.begins; others = x.others; owns = λ l h. ⊎_elim (λ a. known.mine.owns l a) (λ b. known.hears.owns l b) (has_both v.lanes v.heard_lanes l h) };
        hears = has_nothing k.lanes r.owner r.history id;
        unused = known.unused;
        gives = known.gives;
        apart = λ l h. ⊎_elim (λ a. known.apart l a) (λ b. known.apart_heard l b) (has_both v.lanes v.heard_lanes l h);
        apart_heard = λ l h. absurd (no h);
        not_ahead = known.not_ahead;
        holding = λ h. let held = known.holding h in record {
          word = held.word;
          alone = held.alone;
          whole = holder_sees v.seen v.heard r.history known.hears.more held.whole known.hears.begins (nat_lt (length v.seen) (length v.heard)) refl;
          lane = held.lane;
          below = held.below;
          has_lane = has_front held.lane v.lanes v.heard_lanes held.has_lane;
          none_heard = refl;
        };
      }),
      (
        refl,
        refl,
        record {
          mine = subst (λ (n : ℕ). Extends n v.lanes v.seen (longer v.seen v.heard)) (sym told.lanes) x.mine;
          heard = subst (λ (n : ℕ). Extends n v.heard_lanes v.heard (longer v.seen v.heard)) (sym told.lanes) x.heard;
        },
      ),
    )
  where
    holder_sees : (xs ys h more : List Entry) → xs ≡ h → h ≡ ys ++ more → (b : Bool) → nat_lt (length xs) (length ys) ≡ b → longest b xs ys ≡ h
    holder_sees xs ys h more whole begins true is = absurd (omega (arith, ltb-true (length xs) (length ys) is, ap length whole, ap length begins, length-append ys more))
    holder_sees xs ys h more whole begins false is = whole

-- ---- the end

pub closes : (k : Setup) (id : ℕ) (v : RecordView) (ws : List ℕ) (xs : List (Option WorldState)) → IsTold k v → v.holds ≡ false → HasAll v → Final (Seen (IsKept k) id v) ws xs
    → (w : WorldState) × (get_elem? xs 0 ≡ some (Some w)) × Finds v w
closes k id v ws xs told idle all f =
    let s = f.0 in
    let r : IsKept k s = f.1.0 in
    let at : get_elem? s.views id ≡ some v = f.1.1 in
    let known = r.each_seat id v at in
    let w : WorldState = world_of k r.shared r.history in
    let found : get_elem? s.homes 0 ≡ some (some (Some w)) → get_elem? xs 0 ≡ some (Some w) = f.4 0 (Some w) in
    let finds : Finds v w = record {
      declarations = sym told.start;
      budget = sym told.events;
      legal = r.legal;
      within = r.within;
      limit = r.limit;
      more = known.mine.more;
      begins = known.mine.begins;
      others = subst (λ (n : ℕ). HasNone n v.lanes known.mine.more) (sym told.lanes) known.mine.others;
    } in
    dite (ℕ_discrete (word s) 0) (λ free. (w, found (r.free free), finds))
    (λ busy. let t = r.taken busy in let u = t.1.0 in let ku = r.each_seat r.holder u t.1.1 in let held = ku.holding t.1.2 in
    let mine : r.owner held.lane ≡ id = ⊎_elim (λ a. known.mine.owns held.lane a) (λ b. known.gives held.lane b) (or_true (has v.lanes held.lane) (has v.spare held.lane) (all held.lane (subst (λ (n : ℕ). held.lane < n) (sym told.lanes) held.below))) in
    let me : r.holder ≡ id = sym (ku.mine.owns held.lane held.has_lane) ∙ mine in
    let same : u ≡ v = some-injective u v (sym t.1.1 ∙ (ap (get_elem? s.views) me ∙ at)) in
    absurd (no (sym idle ∙ (sym (ap (λ (z : RecordView). z.holds) same) ∙ t.1.2))))

-- the slot that comes back has that world
abbrev pub HasFound : RecordView → List (Option WorldState) → Type 0
HasFound v xs = (w : WorldState) × (get_elem? xs 0 ≡ some (Some w)) × Finds v w

pub not_none : (v : RecordView) (xs : List (Option WorldState)) → HasFound v xs → get_elem? xs 0 ≡ some None → ⊥
not_none v xs f e = is_none f.0 (some-injective (Some f.0) None (sym f.1 ∙ e))
  where
    is_none : (w : WorldState) → Some w ≡ None → ⊥
    is_none w e = absurd cc

pub one_world : (v : RecordView) (xs : List (Option WorldState)) (w : WorldState) → HasFound v xs → get_elem? xs 0 ≡ some (Some w) → Finds v w
one_world v xs w f e = subst (Finds v) (same f.0 w (some-injective (Some f.0) (Some w) (sym f.1 ∙ e))) f.2
  where
    same : (a b : WorldState) → Some a ≡ Some b → a ≡ b
    same a b e = cc e
