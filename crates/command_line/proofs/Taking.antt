-- What clap makes of the words of a command.
use Rattle.std.proofs.Common.{◌≡◌, ◌⊎◌, ℕ, ◌==◌, true, false, List, [], ◌∷◌, length, Option, Some, None, refl, sym, ap, subst, ◌∙◌, ⊎_elim}
use Rattle.std.specs.Prelude.{if◌then◌else◌, unwrap_or}
use Rattle.clap.specs.Words.{App, HasMatchesOf, IsAmong, Kinds, fault_of, first_of, found_of, is_simple, is_simple_and_free, kind_of, matches_of, rows_of}
use Rattle.clap.specs.declared.parser.matches.ArgMatches.{ArgMatches}
use Rattle.clap.specs.declared.error.kind.ErrorKind.{ErrorKind}
use Rattle.clap.specs.declared.error.kind.ErrorKind.TheVariants.{OutOfMemory}
use Rattle.command_line.specs.Commands.{Word, Check, Record, Replay, Show, Derive, Run, Seek, Isolate, Reduce, Races, Tiles, Drill, app_of_word, check_app, record_app, replay_app, show_app, derive_app, run_app, seek_app, isolate_app, reduce_app, races_app, tiles_app, drill_app}
use Rattle.command_line.specs.Requests.{is_none, is_taken, request_with}
use Rattle.command_line.specs.Requests as request
use Rattle.command_line.specs.Plain.{Reads, plain_command}
use Rattle.command_line.specs.declared.command.Command as code

-- each command is one of which clap says exactly what it takes
pub free : (w : Word) → is_simple_and_free (app_of_word w) ≡ true
unfolding check_app record_app replay_app show_app derive_app run_app seek_app isolate_app reduce_app races_app tiles_app drill_app
free Check = refl
free Record = refl
free Replay = refl
free Show = refl
free Derive = refl
free Run = refl
free Seek = refl
free Isolate = refl
free Reduce = refl
free Races = refl
free Tiles = refl
free Drill = refl

pub simple : (w : Word) → is_simple (app_of_word w) ≡ true
unfolding check_app record_app replay_app show_app derive_app run_app seek_app isolate_app reduce_app races_app tiles_app drill_app
simple Check = refl
simple Record = refl
simple Replay = refl
simple Show = refl
simple Derive = refl
simple Run = refl
simple Seek = refl
simple Isolate = refl
simple Reduce = refl
simple Races = refl
simple Tiles = refl
simple Drill = refl

some_fault : (k : ErrorKind) (kinds : Kinds) → IsAmong k kinds → is_none kinds ≡ false
some_fault k [] h = absurd h
some_fault k (x ∷ xs) h = refl

-- the words are taken, and clap found what it says
pub taken : (w : Word) (words : List (List ℕ)) (app : App) (m : ArgMatches) (c : code.Command) → app ≡ app_of_word w → plain_command c ≡ request_with w (rows_of (found_of m))
    → (is_simple_and_free app ≡ true → fault_of app words ≡ []) → HasMatchesOf app words m → Reads (app_of_word w) w words c
taken w words app m c same reads faultless found =
    let free' : is_simple_and_free app ≡ true = ap is_simple_and_free same ∙ free w in
    let simple' : is_simple app ≡ true = ap is_simple same ∙ simple w in
    let none : fault_of (app_of_word w) words ≡ [] = ap (λ (a : App). fault_of a words) (sym same) ∙ faultless free' in
    let yes : is_taken (app_of_word w) words ≡ true = ap is_none none in
    let rows = (found simple').0 ∙ ap (λ (a : App). matches_of a words) same in
    reads ∙ ap (request_with w) rows ∙ sym (ap (λ b. if b then request_with w (matches_of (app_of_word w) words) else request.Unknown) yes)

-- the words aren't taken
pub refused : (w : Word) (words : List (List ℕ)) (app : App) (k : ErrorKind) → app ≡ app_of_word w → (k ≡ OutOfMemory → ⊥) → (is_simple_and_free app ≡ true → (k ≡ OutOfMemory) ⊎ IsAmong k (fault_of app words))
    → request.Unknown ≡ (if is_taken (app_of_word w) words then request_with w (matches_of (app_of_word w) words) else request.Unknown)
refused w words app k same other fails =
    let free' : is_simple_and_free app ≡ true = ap is_simple_and_free same ∙ free w in
    let among : IsAmong k (fault_of app words) = ⊎_elim (λ e. absurd (other e)) (λ h. h) (fails free') in
    let among' = subst (λ (a : App). IsAmong k (fault_of a words)) same among in
    let no : is_taken (app_of_word w) words ≡ false = some_fault k (fault_of (app_of_word w) words) among' in
    sym (ap (λ b. if b then request_with w (matches_of (app_of_word w) words) else request.Unknown) no)
