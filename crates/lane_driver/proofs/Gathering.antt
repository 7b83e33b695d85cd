-- One more thread is gathered.
use Rattle.std.proofs.Common.{◌≡◌, ℕ, zero, suc, ◌+◌, ◌%◌, ◌<◌, ◌≤◌, List, [], ◌∷◌, ◌++◌, map, length, get_or, replicate, Option, Some, None, refl, arith, ap, sym, ◌∙◌, subst}
use Rattle.std.specs.Prelude.{All, Contains, slice_get, slice_set}
use Rattle.std.proofs.lemmas.Option.{slice_get-get_or}
use Rattle.vm_model.specs.declared.op.Entry.{Entry}
use Rattle.vm_model.specs.Program.{PlainProgram}
use Rattle.machine_model.specs.Frames.{LocalState}
use Rattle.machine_model.specs.Machine.{threads_of}
use Rattle.machine_model.specs.Shared.{SharedState}
use Rattle.local_machine.specs.LocalView.{LocalView, IsReady}
use Rattle.schedule_log.specs.Foldings.{PlainFolding}
use Rattle.schedule_log.specs.Parts as log
use Rattle.projection_laws.specs.Projections.{AreProjections, GoesFrom, IsProjection, first_in, own}
use Rattle.projection_laws.proofs.Places.{none_some, set_elsewhere, some_same}
use Rattle.event_machine.specs.MachineView.{AllReady, state_of}
use Rattle.gate_core.specs.Seats.{SeatView}
use Rattle.lane_core.specs.Lanes.{LaneView}
use Rattle.lane_core.specs.declared.part.Part.{Part}
use Rattle.lane_driver.specs.Histories.{Closes}
use Rattle.lane_driver.specs.Joined.{AllOfSeat, numbers_of}
use Rattle.lane_driver.proofs.Histories.{none_noted, none_own, part_noted, part_projects}
use Rattle.lane_driver.proofs.Placing.{lanes_fit, none_fit}
use Rattle.lane_driver.specs.Tables.{AllThreads, FitsThread, Kept, place_lanes}
use Rattle.lane_driver.specs.Gathered.{AllParts, AllStand, FitFrom, FitsHistory, NoteFrom, Notes, Stands}

-- what was added stands at the end
pub push_each : {X : Type 0} (P : ℕ → X → Type 0) (xs : List X) (x : X) → ((t : ℕ) (y : X) → slice_get xs t ≡ Some y → P t y) → P (length xs) x → (t : ℕ) (y : X) → slice_get (xs ++ x ∷ []) t ≡ Some y → P t y
push_each P [] x all last zero y e = subst (P zero) (some_same x y e) last
push_each P [] x all last (suc t) y e = absurd (none_some y e)
push_each P (z ∷ xs) x all last zero y e = all zero y e
push_each P (z ∷ xs) x all last (suc t) y e = push_each (λ (n : ℕ) (w : _). P (suc n) w) xs x (λ n w at. all (suc n) w at) last t y e

pub fit_later : (p : PlainProgram) (h : List Entry) (low : ℕ) (table : List (Option Kept)) (x : Option Kept) → FitFrom p h low table → FitFrom p h (low + 1) (slice_set table low x)
fit_later p h low table x fit t y high at = fit t y (omega (arith, high)) (sym (set_elsewhere table low t x (λ e. omega (arith, e, high))) ∙ at)

pub note_later : (threads : List ℕ) (low : ℕ) (table : List (Option Kept)) (x : Option Kept) → NoteFrom threads low table → NoteFrom threads (low + 1) (slice_set table low x)
note_later threads low table x fit t y high at = fit t y (omega (arith, high)) (sym (set_elsewhere table low t x (λ e. omega (arith, e, high))) ∙ at)

-- what fits the history notes its clocks
fits_note : (p : PlainProgram) (h : List Entry) (t : ℕ) (x : Option Kept) → FitsHistory p h t x → Notes (threads_of h) t x
fits_note p h t None fits = fits.1
fits_note p h t (Some k) fits = fits.1

pub fit_note : (p : PlainProgram) (h : List Entry) (low : ℕ) (table : List (Option Kept)) → FitFrom p h low table → NoteFrom (threads_of h) low table
fit_note p h low table fit t x high at = fits_note p h t x (fit t x high at)

pub are_parts : (h : List Entry) (rows : ℕ) (parts : List PlainFolding) → All (λ t. t < rows) (threads_of h) → rows ≤ length parts → AllParts h parts → log.AreParts (threads_of h) parts
are_parts h rows parts low many all = record { enough = λ k d within. let one : get_or (threads_of h) k d < rows = low k d within in omega (arith, one, many); each = all }

pub read_at : (xs : List (Option Kept)) (i : ℕ) (x : Option Kept) → i < length xs → x ≡ get_or xs i x → slice_get xs i ≡ Some x
read_at xs i x low e = slice_get-get_or xs i x low ∙ ap Some (sym e)

-- a fresh thread
starts : (p : PlainProgram) (o : Option LocalState) (es : List Entry) (end : LocalState) → o ≡ Some end → es ≡ [] → GoesFrom p o es end
starts p None es end e none = absurd (none_some end e)
starts p (Some l) es end e none = subst (λ (xs : List Entry). GoesFrom p (Some l) xs end) (sym none) (some_same l end e)

pub fresh_stands : (p : PlainProgram) (h : List Entry) (t : ℕ) (l : LocalView) → own t h ≡ [] → first_in p h t ≡ Some l.state → IsReady p l → Stands p h t l
fresh_stands p h t l none first ready = record { ready = ready; projects = starts p (first_in p h t) (own t h) l.state first none }

-- ---- all threads

all_ready : (p : PlainProgram) (h : List Entry) (ls : List LocalView) (shift : ℕ) → ((t : ℕ) (l : LocalView) → slice_get ls t ≡ Some l → Stands p h (shift + t) l) → AllReady p ls
all_ready p h [] shift all = tt
all_ready p h (l ∷ ls) shift all = ((all zero l refl).ready, all_ready p h ls (shift + 1) (λ t m at. subst (λ (n : ℕ). Stands p h n m) (omega arith) (all (suc t) m at)))

pub stand_ready : (p : PlainProgram) (h : List Entry) (ls : List LocalView) → AllStand p h ls → AllReady p ls
stand_ready p h ls all = all_ready p h ls 0 (λ t l at. subst (λ (n : ℕ). Stands p h n l) (omega arith) (all t l at))

state_at : (P : ℕ → LocalState → Type 0) (ls : List LocalView) → ((t : ℕ) (l : LocalView) → slice_get ls t ≡ Some l → P t l.state) → (t : ℕ) (m : LocalState) → slice_get (map state_of ls) t ≡ Some m → P t m
state_at P [] all t m e = absurd (none_some m e)
state_at P (l ∷ ls) all zero m e = subst (P zero) (some_same l.state m e) (all zero l refl)
state_at P (l ∷ ls) all (suc t) m e = state_at (λ (n : ℕ) (k : LocalState). P (suc n) k) ls (λ n k at. all (suc n) k at) t m e

map_length : (ls : List LocalView) → length (map state_of ls) ≡ length ls
map_length [] = refl
map_length (l ∷ ls) = ap suc (map_length ls)

pub stand_project : (p : PlainProgram) (h : List Entry) (s : SharedState) (ls : List LocalView) → length ls ≡ length s.rows → AllStand p h ls → AreProjections p h s (map state_of ls)
stand_project p h s ls many all = record { length = map_length ls ∙ many; each = state_at (λ (t : ℕ) (m : LocalState). IsProjection p h t m) ls (λ t l at. (all t l at).projects) }

-- ---- from the joined seat to the history

pub thread_fits : (p : PlainProgram) (lanes : ℕ) (seat : SeatView) (h : List Entry) (done : List ℕ) (t : ℕ) (x : Option Kept) → Closes lanes seat h (t % lanes) → Contains done (t % lanes) → FitsThread p lanes seat done t x → FitsHistory p h t x
thread_fits p lanes seat h done t None closes has fits = (none_own lanes seat h t closes (fits has), none_noted lanes seat h t closes (fits has))
thread_fits p lanes seat h done t (Some k) closes has fits =
    let part : Part = record { local = k.0; folding = k.1 } in
    (record { ready = fits.ready; projects = part_projects p lanes seat h t part closes fits }, part_noted p lanes seat h t part closes fits)

pub table_fits : (p : PlainProgram) (lanes : ℕ) (seat : SeatView) (h : List Entry) (ls : List LaneView) → ((t : ℕ) → Closes lanes seat h (t % lanes)) → ((t : ℕ) → Contains (numbers_of ls) (t % lanes)) → AllOfSeat p lanes seat ls → AllThreads ls
    → FitFrom p h 0 (place_lanes ls (replicate 64 None))
table_fits p lanes seat h ls closes all of threads t x low at =
    thread_fits p lanes seat h (numbers_of ls) t x (closes t) (all t) (lanes_fit p lanes seat [] ls (replicate 64 None) of threads (omega arith) (none_fit p lanes seat 64) t x at)
