-- How the flat structs of the calls for C stand for the answers of the calls behind them.
use Rattle.std.specs.Prelude.{ℕ, zero, suc, Bool, true, false, List, Option, Some, None}
use Rattle.message.specs.Write.{Writing, refused_writing, writing_of}
use Rattle.page.specs.declared.setting.Values.{Values}
use Rattle.page.specs.Page.{is_there, no_values}
use Rattle.page.specs.Lookup.{values_in}
use Rattle.page.specs.Sound.{page_number}
use Rattle.client.specs.Reader.{ReplyAnswer}
use Rattle.sample.specs.declared.axes.Axes.{Axes}
use Rattle.sample.specs.declared.reader.Sample.{Sample}
use Rattle.sample.specs.declared.reader.Sample.TheVariants.{Acceleration, Rate, Unknown}
use Rattle.sample.specs.Reader.{FieldAnswer}
use Rattle.sample.specs.Axes.{bits_of}
use Rattle.capi.specs.declared.flat.FlatReply.{FlatReply}
use Rattle.capi.specs.declared.flat.FlatField.{FlatField}
use Rattle.capi.specs.declared.flat.FlatValues.{FlatValues}
use Rattle.capi.specs.declared.flat.FlatPage.{FlatPage}

-- ---- a value that may be absent: whether it is there, and the value or 0

abbrev pub number_in : Option ℕ → ℕ
number_in None = 0
number_in (Some x) = x

-- Back: an absent one whatever number stands beside.
abbrev pub stored_from : Bool → ℕ → Option ℕ
stored_from false x = None
stored_from true x = Some x

-- ---- a reply, and the values of a page

abbrev pub flat_reply : ReplyAnswer → FlatReply
flat_reply r =
    record {
      number = r.number;
      kind = r.kind;
      echo = r.echo;
      error = r.error;
      has_value = is_there r.value;
      value = number_in r.value;
    }

abbrev pub flat_values : Values → FlatValues
flat_values v =
    record {
      has_baud = is_there v.baud;
      baud = number_in v.baud;
      has_accelerometer = is_there v.accelerometer;
      accelerometer = number_in v.accelerometer;
      has_gyroscope = is_there v.gyroscope;
      gyroscope = number_in v.gyroscope;
      has_last_number = is_there v.number;
      last_number = number_in v.number;
    }

abbrev pub values_from : FlatValues → Values
values_from f =
    record {
      baud = stored_from f.has_baud f.baud;
      accelerometer = stored_from f.has_accelerometer f.accelerometer;
      gyroscope = stored_from f.has_gyroscope f.gyroscope;
      number = stored_from f.has_last_number f.last_number;
    }

-- What reading a page answers: the values where it is blank or sound. With 19 or 20 no value is there.
abbrev pub flat_page_on : ℕ → List ℕ → FlatPage
flat_page_on zero page = record { values = flat_values (values_in page); number = 0 }
flat_page_on (suc n) page = record { values = flat_values no_values; number = suc n }

abbrev pub flat_page : List ℕ → FlatPage
flat_page page = flat_page_on (page_number page) page

abbrev pub first_number : ℕ → ℕ → ℕ
first_number zero next = next
first_number (suc n) next = suc n

-- 19, 20 of the saved page, then of the factory page.
abbrev pub pages_number : List ℕ → List ℕ → ℕ
pages_number saved factory = first_number (page_number saved) (page_number factory)

-- ---- a field of a data message

-- The patterns of three axes, under the field's code, and where its data stands.
abbrev pub flat_axes : ℕ → ℕ → ℕ → ℕ → Axes → FlatField
flat_axes number code place size a =
    record {
      number = number;
      code = code;
      place = place;
      size = size;
      x = bits_of a.x a.x_nan;
      y = bits_of a.y a.y_nan;
      z = bits_of a.z a.z_nan;
    }

-- A field by its code, with the place and the size of its data whatever it is. What is refused is read as an unknown field of zeros, so
-- all but the number is 0 then.
abbrev pub flat_on : Sample → FieldAnswer → FlatField
flat_on (Acceleration a) r = flat_axes r.number 0x81 r.place r.size a
flat_on (Rate a) r = flat_axes r.number 0x82 r.place r.size a
flat_on (Unknown code place) r = record { number = r.number; code = code; place = r.place; size = r.size; x = 0; y = 0; z = 0 }

abbrev pub flat_field : FieldAnswer → FlatField
flat_field r = flat_on r.field r

-- A copy of bytes to a room: the number of the call that found them where it refuses, else 18 where the room is shorter than
-- the bytes.
abbrev pub copying_on : ℕ → List ℕ → List ℕ → Writing
copying_on zero bs room = writing_of bs room
copying_on (suc n) bs room = refused_writing (suc n) room
