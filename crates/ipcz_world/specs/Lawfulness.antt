-- A world that is lawful with some books and routes, and steps after which it is lawful with those that they write.
use Rattle.ipcz_world.specs.declared.step.Step.{Step}
use Rattle.ipcz_world.specs.declared.step.Reply.{Reply}
use Rattle.ipcz_world.specs.World.{World}
use Rattle.ipcz_world.specs.Books.{Books, advance}
use Rattle.ipcz_world.specs.Plain.{Plain}
use Rattle.ipcz_world.specs.Routes.{Routes, routes_after}
use Rattle.ipcz_world.specs.Lawful.{Lawful}

-- there are books and routes with which the world is lawful
pub record IsLawful (w : World) : Type 0 where
  pub books : Books
  pub routes : Routes
  pub lawful : Lawful w books routes

-- a world becomes another one that is lawful with all books and routes with which it was
abbrev pub StaysLawful : World → World → Type 0
StaysLawful w v = (b : Books) → (g : Routes) → Lawful w b g → Lawful v b g

-- a step with this reply makes of a world one that is lawful with what the step writes into the books and routes, whichever it was lawful with
abbrev pub KeepsLawful : World → Step → Reply → World → Type 0
KeepsLawful w step reply v = (b : Books) → (g : Routes) → Lawful w b g → Lawful v (advance w b step reply) (routes_after w g step reply)

-- the reply to a step is one that the books allow, whichever the world was lawful with
abbrev pub IsPlainReply : World → Step → Reply → Type 0
IsPlainReply w step reply = (b : Books) → (g : Routes) → Lawful w b g → Plain b step reply (advance w b step reply)
