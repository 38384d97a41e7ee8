pub mod BoolLaws
pub mod ByteLaws
pub mod RunLaws
pub mod SpellLaws
pub mod TextLaws
