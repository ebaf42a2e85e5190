-- The promises of the contracts themselves, as the kit reads them. Their types are of the kit's own logic.
pub mod Lent
pub mod Hosts
