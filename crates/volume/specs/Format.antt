-- Document 01, "Format".
use Rattle.std.specs.Prelude.{ℕ, suc, ◌/◌, ◌%◌, Bool, cond, not, ◌&&◌, List, [], ◌∷◌, ◌++◌, replicate, eqb}
use Rattle.state.specs.declared.State.{State}
use Rattle.answer.specs.declared.Answer.TheVariants.{Accepted}
use Rattle.answer.specs.declared.Refusal.TheVariants.{Size, WrongSettings, BufferLength}
use Rattle.answer.specs.Answer.{stores_alone}
use Rattle.layout.specs.Bounded.{tabled, is_zero, always}
use Rattle.geometry.specs.declared.Geometry.{Geometry}
use Rattle.geometry.specs.declared.Drive.{Drive}
use Rattle.geometry.specs.declared.Settings.{Settings}
use Rattle.geometry.specs.Geometry.{sector_bytes, pieces_for, entries_per_piece, used_bytes, geometry_of, geometry_fits, drive_fits}
use Rattle.layout.specs.MapSector.{MapSector, encoded}
use Rattle.layout.specs.Entry.{blank}
use Rattle.volume.specs.Tables.{Tables, Memory, zero_tables, named_by, used_by}
use Rattle.state.specs.State.{fresh_state, lost_state}
use Rattle.volume.specs.Refusals.{Check, judged}
use Rattle.volume.specs.Store.{Store, stores_below, After, Action, performed, unless_refused}

-- Zeros over a sector.
abbrev pub blank_store : ℕ → Store
blank_store k = record { sector = k; bytes = blank }

-- Piece p goes into sector p + 1 with number p + 1; only the last closes, and each after the first has one branch, to the
-- one before.
abbrev pub fresh_piece : ℕ → ℕ → MapSector
fresh_piece l p =
    record {
      number = suc p;
      piece = p;
      closing = eqb (suc p) (pieces_for l);
      branches = cond (is_zero p) [] (p ∷ []);
      entries = replicate entries_per_piece 0;
    }

abbrev pub piece_store : ℕ → ℕ → Store
piece_store l p = record { sector = suc p; bytes = encoded l (fresh_piece l p) }

-- Zeros in every sector, ascending, then the pieces.
unfoldable pub format_stores : Geometry → List Store
format_stores g = stores_below always blank_store g.n ++ stores_below always (piece_store g.l) (pieces_for g.l)

unfoldable pub format_tables : ℕ → Tables
format_tables l =
    let places = tabled 0 (pieces_for l) suc in
    let named = named_by l (λ _. 0) places in
    record { entry = λ _. 0; place = places; number = places; is_used = used_by named }

unfoldable pub format_action : Geometry → Drive → Action
format_action g drive =
    let p = pieces_for g.l in
    record {
      stores = format_stores g;
      cost = stores_alone;
      answer = Accepted;
      state = fresh_state g drive p p;
      tables = format_tables g.l;
      cut_state = lost_state g drive;
      cut_tables = zero_tables;
    }

-- N of an image: its length in sectors.
abbrev pub sectors_in : Memory → ℕ
sectors_in m = m.lengths.image / sector_bytes

-- The volume that a call is to make or find in an image, by what it is given.
abbrev pub volume_in : Memory → Settings → Geometry
volume_in m settings = geometry_of (sectors_in m) settings

-- Refusal 1 of a call that takes N from the image.
unfoldable pub image_fits : Memory → Settings → Bool
image_fits m settings = is_zero (m.lengths.image % sector_bytes) && geometry_fits (volume_in m settings)

-- Refusal 2: the tables have their lengths.
unfoldable pub tables_fit : Memory → Geometry → Bool
tables_fit m g =
    eqb m.lengths.map g.l
    && eqb m.lengths.places (pieces_for g.l)
    && eqb m.lengths.numbers (pieces_for g.l)
    && eqb m.lengths.used (used_bytes g.n)

-- The refusals of format and recover: 1, 11 and 2. Neither looks at the state.
unfoldable pub size_checks : Memory → Settings → List Check
size_checks m settings =
    record { applies = not (image_fits m settings); refusal = Size }
    ∷ record { applies = not (drive_fits (sectors_in m) settings.drive); refusal = WrongSettings }
    ∷ record { applies = not (tables_fit m (volume_in m settings)); refusal = BufferLength }
    ∷ []

unfoldable pub format_of : State → Memory → Settings → ℕ → After
format_of s m settings allowance =
    unless_refused (judged (size_checks m settings)) s m (performed allowance (format_action (volume_in m settings) settings.drive) m)
