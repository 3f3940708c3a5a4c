-- The invariant of a volume between calls: what its image says of tables, tail, number and plain disk.
use Prim.Native.Nat.{ℕ, ◌^◌, ◌≤◌, ◌<◌}
use mathlib.Core.Path.{◌≡◌, sym, ◌∙◌, ap, subst}
use mathlib.Core.Logic.{◌⊎◌}
use mathlib.Core.Bool.{true, false}
use mathlib.Core.List.{List}
use mathlib.Core.Option.{none, some}
use Rattle.geometry.specs.declared.Geometry.{Geometry}
use Rattle.geometry.specs.Geometry.{pieces_for}
use Rattle.layout.specs.Bounded.{best}
use Rattle.layout.specs.MapSector.{MapSector, View}
use Rattle.layout.specs.Entry.{blank, is_empty, sector_of, restored}
use Rattle.layout.specs.ParkRecord.{park_record}
use Rattle.volume.specs.Tables.{Tables, named_by, used_by}
use Rattle.volume.specs.Recover.{image_view}
use Rattle.history.specs.History.{Disk, Reaches, itself, through}
use Rattle.laws.proofs.Bounded.{best_below}
use Rattle.laws.proofs.Names.{Name, piece, block, Named, sector_named}
use Rattle.laws.proofs.Sizes.{Fits, view_same, some_pieces}
use Rattle.agreement.proofs.Agreed.{Agreed}

-- What the image says of the sectors that the tables name, and of no others.
pub record Ground (g : Geometry) (image : ℕ → List ℕ) (t : Tables) (tail number : ℕ) (disk : Disk) : Type 0 where
  pub agreed : Agreed g image t tail number
  pub high : number < 2 ^ 32
  pub closes : (m : MapSector) → image_view g image tail ≡ some m → m.closing ≡ true
  pub chain : (p : ℕ) → p < pieces_for g.l → Reaches (image_view g image) t.place (pieces_for g.l) tail p
  pub empty : (b : ℕ) → b < g.l → is_empty (t.entry b) ≡ true → disk b ≡ blank
  pub full : (b : ℕ) → b < g.l → is_empty (t.entry b) ≡ false → restored (t.entry b) (image (sector_of (t.entry b))) ≡ disk b
  pub unsigned : (b : ℕ) → b < g.l → is_empty (t.entry b) ≡ false → image_view g image (sector_of (t.entry b)) ≡ none
  -- Past their ends the tables are zero, and the used map is exact.
  pub places_past : (p : ℕ) → pieces_for g.l ≤ p → t.place p ≡ 0
  pub numbers_past : (p : ℕ) → pieces_for g.l ≤ p → t.number p ≡ 0
  pub entries_past : (b : ℕ) → g.l ≤ b → t.entry b ≡ 0
  pub used_all : (k : ℕ) → t.is_used k ≡ used_by (named_by g.l t.entry t.place) k

-- And of every sector that is signed anywhere, stale ones too.
pub record Committed (g : Geometry) (image : ℕ → List ℕ) (t : Tables) (tail number : ℕ) (disk : Disk) : Type 0 where
  pub ground : Ground g image t tail number disk
  pub apart : (j k : ℕ) (a b : MapSector) → image_view g image j ≡ some a → image_view g image k ≡ some b → a.number ≡ b.number → j ≡ k
  pub latest : (k : ℕ) (a : MapSector) → image_view g image k ≡ some a → a.number ≤ number → a.number ≤ t.number a.piece
  pub unclosed : (k : ℕ) (a : MapSector) → image_view g image k ≡ some a → number < a.number → a.closing ≡ false
  pub park : (image 0 ≡ blank)
      ⊎ ((image 0 ≡ park_record (record { number = number; tail = tail }))
      × ((k : ℕ) (a : MapSector) → image_view g image k ≡ some a → a.number ≤ number))

-- No commit was cut since.
pub record Settled (g : Geometry) (image : ℕ → List ℕ) (t : Tables) (tail number : ℕ) (disk : Disk) : Type 0 where
  pub committed : Committed g image t tail number disk
  pub none_above : (k : ℕ) (a : MapSector) → image_view g image k ≡ some a → a.number ≤ number

pub reaches_below : {view : View} {live : ℕ → ℕ} {pieces tail p : ℕ} → Reaches view live pieces tail p → p < pieces
reaches_below (itself h e v) = h
reaches_below (through r e h f g lt) = h

pub reaches_moves : {view : View} {live : ℕ → ℕ} {pieces tail p : ℕ} (other : View)
    → ((q : ℕ) → q < pieces → other (live q) ≡ view (live q)) → Reaches view live pieces tail p → Reaches other live pieces tail p
reaches_moves {view} other f (itself {p = p} h e v) = itself h e (ap other (sym e) ∙ f p h ∙ ap view e ∙ v)
reaches_moves other f (through {q = q} {p = p} r e h g v lt) =
    through (reaches_moves other f r) (f q (reaches_below r) ∙ e) h g (f p h ∙ v) lt

-- The ground moves along wherever the named sectors keep their bytes.
pub ground_moves : {g : Geometry} {image : ℕ → List ℕ} {t : Tables} {tail number : ℕ} {disk : Disk} (other : ℕ → List ℕ) → Fits g
    → ((x : Name) → Named g.l t.entry t.place x → other (sector_named g.l t.entry t.place x) ≡ image (sector_named g.l t.entry t.place x))
    → Ground g image t tail number disk → Ground g other t tail number disk
ground_moves {g} {image} {t} {tail} {number} {disk} other fit f u =
    let moved : (p : ℕ) → p < pieces_for g.l → image_view g other (t.place p) ≡ image_view g image (t.place p) =
    λ p h. view_same g other image (t.place p) (f (piece p) h) in
    let newest = best_below t.number (pieces_for g.l) (some_pieces g.l fit.some) in
    record {
      agreed = record {
        sound = u.agreed.sound;
        words = u.agreed.words;
        live = λ p h. let w = u.agreed.live p h in (w.0, moved p h ∙ w.1, w.2, w.3, w.4);
      };
      high = u.high;
      closes = λ m e.
          u.closes m
          (subst (λ (k : ℕ). image_view g image k ≡ some m) (sym u.agreed.sound.tail_is)
          (sym (moved (best t.number (pieces_for g.l)) newest)
          ∙ subst (λ (k : ℕ). image_view g other k ≡ some m) u.agreed.sound.tail_is e));
      chain = λ p h. reaches_moves (image_view g other) moved (u.chain p h);
      empty = u.empty;
      full = λ b h e. ap (restored (t.entry b)) (f (block b) (h, e)) ∙ u.full b h e;
      unsigned = λ b h e. view_same g other image (sector_of (t.entry b)) (f (block b) (h, e)) ∙ u.unsigned b h e;
      places_past = u.places_past;
      numbers_past = u.numbers_past;
      entries_past = u.entries_past;
      used_all = u.used_all;
    }
