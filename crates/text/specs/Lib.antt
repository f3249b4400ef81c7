pub mod Printed
pub mod PrintedLaws
pub mod TextLaws
