-- The sixteen modes (01-scope.md, "Modes"): the rows of modespec.rs in the order of `SstvMode`, numbered from 0. Definitions only.
-- `decimal n k` is n / 10 ^ k, rounded once, as the literal of the Rust is.
use Rattle.std.specs.Prelude.{ℕ, List, [], ◌∷◌, slice_index_or}
use Rattle.ieee.specs.Numbers.{decimal}
use Rattle.modespec.specs.declared.ModeSpec.{ModeSpec}
use Rattle.modespec.specs.declared.ChannelLayout.TheVariants.{PdYcbcr, RobotYuv, RgbSequential, Monochrome}
use Rattle.modespec.specs.declared.SyncPosition.TheVariants.{LineStart, Scottie}

-- PD 120
unfoldable pub pd120 : ModeSpec
unfolding decimal
pd120 =
    record {
      mode = 0;
      line_pixels = 640;
      image_lines = 496;
      line_seconds = decimal 50848 5;
      sync_seconds = decimal 20 3;
      porch_seconds = decimal 208 5;
      pixel_seconds = decimal 19 5;
      channel_layout = PdYcbcr;
      sync_position = LineStart;
    }

-- PD 180
unfoldable pub pd180 : ModeSpec
unfolding decimal
pd180 =
    record {
      mode = 1;
      line_pixels = 640;
      image_lines = 496;
      line_seconds = decimal 75424 5;
      sync_seconds = decimal 20 3;
      porch_seconds = decimal 208 5;
      pixel_seconds = decimal 286 6;
      channel_layout = PdYcbcr;
      sync_position = LineStart;
    }

-- PD 240
unfoldable pub pd240 : ModeSpec
unfolding decimal
pd240 =
    record {
      mode = 2;
      line_pixels = 640;
      image_lines = 496;
      line_seconds = decimal 1000 3;
      sync_seconds = decimal 20 3;
      porch_seconds = decimal 208 5;
      pixel_seconds = decimal 382 6;
      channel_layout = PdYcbcr;
      sync_position = LineStart;
    }

-- Robot 24
unfoldable pub robot24 : ModeSpec
unfolding decimal
robot24 =
    record {
      mode = 3;
      line_pixels = 320;
      image_lines = 240;
      line_seconds = decimal 150 3;
      sync_seconds = decimal 9 3;
      porch_seconds = decimal 3 3;
      pixel_seconds = decimal 1375 7;
      channel_layout = RobotYuv;
      sync_position = LineStart;
    }

-- Robot 36
unfoldable pub robot36 : ModeSpec
unfolding decimal
robot36 =
    record {
      mode = 4;
      line_pixels = 320;
      image_lines = 240;
      line_seconds = decimal 150 3;
      sync_seconds = decimal 9 3;
      porch_seconds = decimal 3 3;
      pixel_seconds = decimal 1375 7;
      channel_layout = RobotYuv;
      sync_position = LineStart;
    }

-- Robot 72
unfoldable pub robot72 : ModeSpec
unfolding decimal
robot72 =
    record {
      mode = 5;
      line_pixels = 320;
      image_lines = 240;
      line_seconds = decimal 300 3;
      sync_seconds = decimal 9 3;
      porch_seconds = decimal 3 3;
      pixel_seconds = decimal 2875 7;
      channel_layout = RobotYuv;
      sync_position = LineStart;
    }

-- Robot 24 B/W
unfoldable pub robot24_bw : ModeSpec
unfolding decimal
robot24_bw =
    record {
      mode = 6;
      line_pixels = 320;
      image_lines = 240;
      line_seconds = decimal 100 3;
      sync_seconds = decimal 7 3;
      porch_seconds = decimal 0 1;
      pixel_seconds = decimal 291 6;
      channel_layout = Monochrome;
      sync_position = LineStart;
    }

-- Robot 12 B/W
unfoldable pub robot12_bw : ModeSpec
unfolding decimal
robot12_bw =
    record {
      mode = 7;
      line_pixels = 320;
      image_lines = 120;
      line_seconds = decimal 100 3;
      sync_seconds = decimal 7 3;
      porch_seconds = decimal 0 1;
      pixel_seconds = decimal 291 6;
      channel_layout = Monochrome;
      sync_position = LineStart;
    }

-- Robot 8 B/W
unfoldable pub robot8_bw : ModeSpec
unfolding decimal
robot8_bw =
    record {
      mode = 8;
      line_pixels = 320;
      image_lines = 120;
      line_seconds = decimal 669 4;
      sync_seconds = decimal 7 3;
      porch_seconds = decimal 0 1;
      pixel_seconds = decimal 1871875 10;
      channel_layout = Monochrome;
      sync_position = LineStart;
    }

-- Scottie 1
unfoldable pub scottie1 : ModeSpec
unfolding decimal
scottie1 =
    record {
      mode = 9;
      line_pixels = 320;
      image_lines = 256;
      line_seconds = decimal 42838 5;
      sync_seconds = decimal 9 3;
      porch_seconds = decimal 15 4;
      pixel_seconds = decimal 4320 7;
      channel_layout = RgbSequential;
      sync_position = Scottie;
    }

-- Scottie 2
unfoldable pub scottie2 : ModeSpec
unfolding decimal
scottie2 =
    record {
      mode = 10;
      line_pixels = 320;
      image_lines = 256;
      line_seconds = decimal 277692 6;
      sync_seconds = decimal 9 3;
      porch_seconds = decimal 15 4;
      pixel_seconds = decimal 2752 7;
      channel_layout = RgbSequential;
      sync_position = Scottie;
    }

-- Scottie DX
unfoldable pub scottie_dx : ModeSpec
unfolding decimal
scottie_dx =
    record {
      mode = 11;
      line_pixels = 320;
      image_lines = 256;
      line_seconds = decimal 10503 4;
      sync_seconds = decimal 9 3;
      porch_seconds = decimal 15 4;
      pixel_seconds = decimal 108053 8;
      channel_layout = RgbSequential;
      sync_position = Scottie;
    }

-- Martin 1
unfoldable pub martin1 : ModeSpec
unfolding decimal
martin1 =
    record {
      mode = 12;
      line_pixels = 320;
      image_lines = 256;
      line_seconds = decimal 446446 6;
      sync_seconds = decimal 4862 6;
      porch_seconds = decimal 572 6;
      pixel_seconds = decimal 4576 7;
      channel_layout = RgbSequential;
      sync_position = LineStart;
    }

-- Martin 2
unfoldable pub martin2 : ModeSpec
unfolding decimal
martin2 =
    record {
      mode = 13;
      line_pixels = 320;
      image_lines = 256;
      line_seconds = decimal 2267986 7;
      sync_seconds = decimal 4862 6;
      porch_seconds = decimal 572 6;
      pixel_seconds = decimal 2288 7;
      channel_layout = RgbSequential;
      sync_position = LineStart;
    }

-- Wraase SC-2 120
unfoldable pub wraase120 : ModeSpec
unfolding decimal
wraase120 =
    record {
      mode = 14;
      line_pixels = 320;
      image_lines = 256;
      line_seconds = decimal 475530018 9;
      sync_seconds = decimal 55225 7;
      porch_seconds = decimal 5 4;
      pixel_seconds = decimal 489039081 12;
      channel_layout = RgbSequential;
      sync_position = LineStart;
    }

-- Wraase SC-2 180
unfoldable pub wraase180 : ModeSpec
unfolding decimal
wraase180 =
    record {
      mode = 15;
      line_pixels = 320;
      image_lines = 256;
      line_seconds = decimal 7110225 7;
      sync_seconds = decimal 55225 7;
      porch_seconds = decimal 5 4;
      pixel_seconds = decimal 734532 9;
      channel_layout = RgbSequential;
      sync_position = LineStart;
    }

-- the sixteen rows, in the order of `SstvMode`
unfoldable pub rows : List ModeSpec
unfolding pd120 pd180 pd240 robot24 robot36 robot72 robot24_bw robot12_bw robot8_bw scottie1 scottie2 scottie_dx martin1 martin2 wraase120 wraase180
rows = pd120 ∷ pd180 ∷ pd240 ∷ robot24 ∷ robot36 ∷ robot72 ∷ robot24_bw ∷ robot12_bw ∷ robot8_bw ∷ scottie1 ∷ scottie2 ∷ scottie_dx ∷ martin1 ∷ martin2 ∷ wraase120 ∷ wraase180 ∷ []

-- the row of a mode's number. A number above 15, which every call refuses, gets the last row.
unfoldable pub spec_of : ℕ → ModeSpec
unfolding rows
spec_of mode = slice_index_or rows mode wraase180
