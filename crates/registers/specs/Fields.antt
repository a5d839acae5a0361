-- Aid: the registers with one field changed; and, last, with all that a cut changes whatever is under way.
-- Assumes nothing.
use Rattle.std.specs.Prelude.{ℕ, Bool, true, false, List}
use Rattle.registers.specs.declared.Operation.{Operation}
use Rattle.registers.specs.declared.Operation.TheVariants.{Idle}
use Rattle.registers.specs.declared.Registers.{Registers}

abbrev pub with_protection : Registers → List ℕ → Registers
with_protection r bytes =
    record {
      protection = bytes;
      lockdown = r.lockdown;
      user = r.user;
      factory = r.factory;
      used = r.used;
      protect = r.protect;
      wp = r.wp;
      deep = r.deep;
      operation = r.operation;
    }

abbrev pub with_lockdown : Registers → List ℕ → Registers
with_lockdown r bytes =
    record {
      protection = r.protection;
      lockdown = bytes;
      user = r.user;
      factory = r.factory;
      used = r.used;
      protect = r.protect;
      wp = r.wp;
      deep = r.deep;
      operation = r.operation;
    }

-- (7.14) the user bytes written: the used mark is set with them
abbrev pub with_user : Registers → List ℕ → Registers
with_user r bytes =
    record {
      protection = r.protection;
      lockdown = r.lockdown;
      user = bytes;
      factory = r.factory;
      used = true;
      protect = r.protect;
      wp = r.wp;
      deep = r.deep;
      operation = r.operation;
    }

abbrev pub with_protect : Registers → Bool → Registers
with_protect r on =
    record {
      protection = r.protection;
      lockdown = r.lockdown;
      user = r.user;
      factory = r.factory;
      used = r.used;
      protect = on;
      wp = r.wp;
      deep = r.deep;
      operation = r.operation;
    }

abbrev pub with_wp : Registers → Bool → Registers
with_wp r high =
    record {
      protection = r.protection;
      lockdown = r.lockdown;
      user = r.user;
      factory = r.factory;
      used = r.used;
      protect = r.protect;
      wp = high;
      deep = r.deep;
      operation = r.operation;
    }

abbrev pub with_deep : Registers → Bool → Registers
with_deep r on =
    record {
      protection = r.protection;
      lockdown = r.lockdown;
      user = r.user;
      factory = r.factory;
      used = r.used;
      protect = r.protect;
      wp = r.wp;
      deep = on;
      operation = r.operation;
    }

abbrev pub with_operation : Registers → Operation → Registers
with_operation r o =
    record {
      protection = r.protection;
      lockdown = r.lockdown;
      user = r.user;
      factory = r.factory;
      used = r.used;
      protect = r.protect;
      wp = r.wp;
      deep = r.deep;
      operation = o;
    }

-- (8.10) what a cut does to the registers of every chip: protect and deep mark cleared, nothing under way
abbrev pub restarted : Registers → Registers
restarted r =
    record {
      protection = r.protection;
      lockdown = r.lockdown;
      user = r.user;
      factory = r.factory;
      used = r.used;
      protect = false;
      wp = r.wp;
      deep = false;
      operation = Idle;
    }
