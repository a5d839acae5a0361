-- Lines worked out by the definition.
-- Assumes nothing.
use Rattle.std.specs.Prelude.{Some, None, Ok, Err}
use mathlib.Core.Path.{◌≡◌, refl}
use Rattle.words.specs.Letters.{bytes}
use Rattle.orders.specs.Lines.{said_by, read_of}
use Rattle.words.specs.Words.{command_of, begins_with, key_of}
use Rattle.word_values.specs.Values.{number_as}
use Rattle.word_values.specs.Days.{date_of}
use Rattle.operands.specs.Operands.{take_first, take_place, take_bytes, operands_of}
use Rattle.options.specs.Options.{take_value, take_option, take_word, take_words, words_of, options_of}
use Rattle.orders.specs.Orders.{order_of}
use Rattle.slices.specs.Lists.{same}
use Rattle.text.specs.Lists.{every, leading, scan}
use Rattle.text.specs.Words.{is_blank, not_blank}
use Rattle.text.specs.Decimal.{is_digit, value_from, below_limit, number_of}
use Rattle.text.specs.Hyphens.{not_hyphen, before_hyphen, behind_hyphen}
use Rattle.text.specs.Hexadecimal.{nibble_of, is_hex_digit, hex_of}
use Rattle.dates.specs.declared.Term.TheVariants as Term
use Rattle.words.specs.declared.Command.TheVariants as Command
use Rattle.words.specs.declared.Key.TheVariants as Key
use Rattle.faults.specs.declared.Name.TheVariants as Name
use Rattle.faults.specs.declared.Fault.TheVariants as Fault

-- blanks of all kinds, leading zeros, either case of digits, a seed modulo 256, an empty script; the words left to right
pub worked :
    (read_of (bytes " patch 007\t12 00fF junk=300 log=6 script=") ≡
    Ok (record {
      command = Command.Patch;
      number = 7;
      place = 12;
      bytes = record { start = 14; end = 18 };
      limit = 1;
      script = record { start = 41; end = 41 };
      seed = 44;
      junk = None;
      log = Some 6;
      buffer = None;
      reply = None;
      term = Term.Unlimited;
      today = record { year = 2000; month = 1; day = 1 };
    })) ×
    (read_of (bytes "cut 513") ≡
    Ok (record {
      command = Command.Cut;
      number = 1;
      place = 0;
      bytes = record { start = 0; end = 0 };
      limit = 1;
      script = record { start = 0; end = 0 };
      seed = 0;
      junk = None;
      log = None;
      buffer = None;
      reply = None;
      term = Term.Unlimited;
      today = record { year = 2000; month = 1; day = 1 };
    })) ×
    (read_of (bytes "put x") ≡ Err (Fault.NotNumber Name.Slot)) ×
    (read_of (bytes "raw 123") ≡ Err (Fault.Odd Name.Hex)) ×
    (read_of (bytes "wipe 1 b=2 b=") ≡ Err Fault.Twice) ×
    (read_of (bytes "get 1 reply=65537") ≡ Err (Fault.Over Key.Reply)) ×
    (read_of (bytes "pin 1 b=2") ≡ Err Fault.TooManyWords) ×
    (read_of (bytes "part\t") ≡ Err (Fault.Missing Name.Part)) ×
    (read_of (bytes "part 128x") ≡ Err Fault.NotPart) ×
    (read_of (bytes " \t\r") ≡ Err Fault.NoCommand)
unfolding read_of said_by command_of begins_with key_of number_as take_first take_place take_bytes operands_of take_value take_option take_word take_words words_of options_of order_of same every leading scan is_blank not_blank is_digit value_from below_limit number_of nibble_of is_hex_digit hex_of
worked = (refl, refl, refl, refl, refl, refl, refl, refl, refl, refl)

-- dates of any digits; first= and last= in either order, both or neither, of any call
pub dated :
    (read_of (bytes "put 3 - last=2024-02-9 b=2 first=0-13-00099") ≡
    Ok (record {
      command = Command.Put;
      number = 3;
      place = 0;
      bytes = record { start = 6; end = 7 };
      limit = 2;
      script = record { start = 0; end = 0 };
      seed = 0;
      junk = None;
      log = None;
      buffer = None;
      reply = None;
      term = Term.Between (record { year = 0; month = 13; day = 99 }) (record { year = 2024; month = 2; day = 9 });
      today = record { year = 2000; month = 1; day = 1 };
    })) ×
    (read_of (bytes "get 1 today=2100-02-4294967295") ≡
    Ok (record {
      command = Command.Get;
      number = 1;
      place = 0;
      bytes = record { start = 0; end = 0 };
      limit = 1;
      script = record { start = 0; end = 0 };
      seed = 0;
      junk = None;
      log = None;
      buffer = None;
      reply = None;
      term = Term.Unlimited;
      today = record { year = 2100; month = 2; day = 4294967295 };
    })) ×
    (read_of (bytes "put 1 00 first=2024-1-1") ≡ Err (Fault.Missing (Name.Option Key.Last))) ×
    (read_of (bytes "wipe 0 today=1-1-1 last=1-1-1") ≡ Err (Fault.Missing (Name.Option Key.First))) ×
    (read_of (bytes "get 1 today=2024-01") ≡ Err (Fault.NotDate (Name.Option Key.Today))) ×
    (read_of (bytes "get 1 today=2024-01-02-03") ≡ Err (Fault.NotDate (Name.Option Key.Today))) ×
    (read_of (bytes "get 1 today=2024--2") ≡ Err (Fault.NotDate (Name.Option Key.Today))) ×
    (read_of (bytes "put 1 - last=2024-1-1x") ≡ Err (Fault.NotDate (Name.Option Key.Last))) ×
    (read_of (bytes "put 1 - first=4294967296-1-1") ≡ Err (Fault.TooLarge (Name.Option Key.First))) ×
    (read_of (bytes "get 1 today=1-1-1 today=") ≡ Err Fault.Twice)
unfolding read_of said_by command_of begins_with key_of number_as date_of take_first take_place take_bytes operands_of take_value take_option take_word take_words words_of options_of order_of same every leading scan is_blank not_blank is_digit value_from below_limit number_of not_hyphen before_hyphen behind_hyphen nibble_of is_hex_digit hex_of
dated = (refl, refl, refl, refl, refl, refl, refl, refl, refl, refl)
